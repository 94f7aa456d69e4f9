-- The calls that need no ticket: make, load, play, take back and clear; and refused calls.
use Rattle.std.proofs.Common.{◌≡◌, ℕ, ◌<◌, Bool, true, cond, List, [], ◌∷◌, Some, None, Ok, Option, sym, refl, ap, ◌∙◌, subst}
use Rattle.std.proofs.lemmas.Bool.{false≢true, ltb-true}
use Rattle.lattice.specs.Scores.{Scoring}
use Rattle.games.specs.Trees.{Tree, Line, Lawful, count, children_of, loaded, can_play, after_play, can_take_back, after_take_back}
use Rattle.tables.specs.Tables.{TableOps, TableLaws}
use Rattle.search.specs.Invariant.{Honest}
use Rattle.analyst.specs.declared.analyst.Open.{Open}
use Rattle.analyst.specs.declared.refusal.Refusal.{Refusal}
use Rattle.analyst.specs.Calls.{State, Stack, makes, loads, plays, takes_back, clears, none_open}
use Rattle.analyst.specs.Histories.{Account, Standing, child_first, line_at, account_at, open_after, next, loaded as loaded_with, played, took_back, refused, after_clear}
use Rattle.analyst.proofs.Results.{same_ok, yes_first}
use Rattle.analyst.proofs.Sound.{Rested, Stands, Sound}

module _ {S : Type 0} where
  pub lawful_child : (l : Line S) (n : ℕ) → n < count (children_of l.present) → Lawful l → Lawful (child_first l n)
  lawful_child l n h y =
      record { linked = ((n, h, refl), y.linked); few = y.few; some = y.some; falls = y.falls; low = y.low; keyed = y.keyed }

  lawful_at : (t : Tree S) (us : List (Tree S)) → let l : Line S = record { present = t; earlier = us } in Lawful l → Lawful (after_take_back l)
  lawful_at t [] y = y
  lawful_at t (u ∷ us) y =
      record { linked = y.linked.1; few = y.few; some = y.some; falls = y.falls; low = y.low; keyed = y.keyed }

  pub lawful_back : (l : Line S) → Lawful l → Lawful (after_take_back l)
  lawful_back l y = lawful_at l.present l.earlier y

  loaded_at : (t : Tree S) (us : List (Tree S)) → let l : Line S = record { present = t; earlier = us } in loaded (after_take_back l) ≡ loaded l
  loaded_at t [] = refl
  loaded_at t (u ∷ us) = refl

  loaded_back : (l : Line S) → loaded (after_take_back l) ≡ loaded l
  loaded_back l = loaded_at l.present l.earlier

  played_child : (l : Line S) (n : ℕ) → can_play l n ≡ true → after_play l n ≡ child_first l n
  played_child l n e = ap (λ (b : Bool). cond b (child_first l n) l) e

-- a cleared table holds nothing false
cleared_honest : {S C M : Type 0} (o : Scoring C) (st : S → C) (tb : TableOps M) → TableLaws tb → (root : Tree S) (m : M) → Honest o st tb root (tb.clear m)
cleared_honest o st tb tl root m c h = absurd (tl.clears m c h)

module _ {S C M P : Type 0} (o : Scoring C) (st : S → C) (tb : TableOps M) where
  -- with no search open, the game stands where the calls say
  pub rested : (base : Line S) (c : Option (Account S C)) (a : State S C M P) (q : Option (Stack C)) (open? : Bool) (v : Option (Open C))
      → Stands o st tb base c a q open? v → none_open v ≡ true → Rested o st tb base a q open?
  rested base c a q open? None h e = h
  rested base c a q open? (Some s) h e = absurd (false≢true e)

  pub at_rest : (x : Standing S C M P) → Sound o st tb x → none_open x.state.search ≡ true
      → Rested o st tb (line_at x) x.state x.busy (open_after x.events)
  at_rest x s e = rested (line_at x) (account_at x) x.state x.busy (open_after x.events) x.state.search s.stands e

  -- a refused call
  pub refused_sound : (x : Standing S C M P) (r : Refusal) → Sound o st tb x → Sound o st tb (next x (refused r) x.state x.busy)
  refused_sound x r s = record { lawful = s.lawful; honest = s.honest; jobs = s.jobs; stands = s.stands }

  module _ (tl : TableLaws tb) where
    pub made_sound : (l : Line S) (m : M) (p : P) → Lawful l
        → Sound o st tb (record { first = l; events = []; state = makes tb l m p; busy = None })
    made_sound l m p y = record {
      lawful = y;
      honest = cleared_honest o st tb tl (loaded l) m;
      jobs = refl;
      stands = record { same = refl; idle = refl; told = refl };
    }

    pub load_sound : (x : Standing S C M P) (l : Line S) (b : State S C M P) → Lawful l → Sound o st tb x
        → loads tb x.state l ≡ Ok b → Sound o st tb (next x (loaded_with l) b x.busy)
    load_sound x l b y s e =
        let (idle, is) = yes_first (none_open x.state.search) _ _ b e in
        let r = at_rest x s idle in
        subst (λ (z : State S C M P). Sound o st tb (next x (loaded_with l) z x.busy)) (same_ok is)
        (record {
          lawful = y;
          honest = cleared_honest o st tb tl (loaded l) x.state.table;
          jobs = s.jobs;
          stands = record { same = refl; idle = r.idle; told = r.told };
        })

    stands_cleared : (base : Line S) (c : Option (Account S C)) (a : State S C M P) (q : Option (Stack C)) (open? : Bool) (v : Option (Open C))
        → Stands o st tb base c a q open? v → Stands o st tb base c (clears tb a) q open? v
    stands_cleared base c a q open? None h = record { same = h.same; idle = h.idle; told = h.told }
    stands_cleared base c a q open? (Some s) (p, is, begun, y) = (
      p,
      is,
      begun,
      record {
        numbered = y.numbered;
        job_same = y.job_same;
        places_same = y.places_same;
        depth_same = y.depth_same;
        invariant = record {
          underway = y.invariant.underway;
          room = y.invariant.room;
          honest = cleared_honest o st tb tl (loaded base) a.table;
        };
        granted = y.granted;
        entered = y.entered;
        accounted = y.accounted;
        steps = y.steps;
        few = y.few;
        told = y.told;
      },
    )

    pub clear_sound : (x : Standing S C M P) → Sound o st tb x → Sound o st tb (after_clear tb x)
    clear_sound x s = record {
      lawful = s.lawful;
      honest = cleared_honest o st tb tl (loaded (line_at x)) x.state.table;
      jobs = s.jobs;
      stands = stands_cleared (line_at x) (account_at x) x.state x.busy (open_after x.events) x.state.search s.stands;
    }

  pub play_sound : (x : Standing S C M P) (n : ℕ) (b : State S C M P) → Sound o st tb x
      → plays x.state n ≡ Ok b → Sound o st tb (next x (played n) b x.busy)
  play_sound x n b s e =
      let (idle, more) = yes_first (none_open x.state.search) _ _ b e in
      let (can, is) = yes_first (can_play x.state.line n) _ _ b more in
      let r = at_rest x s idle in
      let there : n < count (children_of (line_at x).present) =
      ltb-true n _ (subst (λ (l : Line S). can_play l n ≡ true) r.same can) in
      subst (λ (z : State S C M P). Sound o st tb (next x (played n) z x.busy)) (same_ok is)
      (record {
        lawful = lawful_child (line_at x) n there s.lawful;
        honest = s.honest;
        jobs = s.jobs;
        stands = record {
          same = played_child x.state.line n can ∙ ap (λ (l : Line S). child_first l n) r.same;
          idle = r.idle;
          told = r.told;
        };
      })

  pub take_back_sound : (x : Standing S C M P) (b : State S C M P) → Sound o st tb x
      → takes_back x.state ≡ Ok b → Sound o st tb (next x took_back b x.busy)
  take_back_sound x b s e =
      let (idle, more) = yes_first (none_open x.state.search) _ _ b e in
      let (can, is) = yes_first (can_take_back x.state.line) _ _ b more in
      let r = at_rest x s idle in
      subst (λ (z : State S C M P). Sound o st tb (next x took_back z x.busy)) (same_ok is)
      (record {
        lawful = lawful_back (line_at x) s.lawful;
        honest = subst (λ (t : Tree S). Honest o st tb t x.state.table) (sym (loaded_back (line_at x))) s.honest;
        jobs = s.jobs;
        stands = record { same = ap after_take_back r.same; idle = r.idle; told = r.told };
      })
