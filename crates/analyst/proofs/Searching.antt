-- The calls of a search: begin, run and end.
use Rattle.std.proofs.Common.{◌≡◌, ℕ, ◌+◌, ◌*◌, ◌<◌, ◌≤◌, Bool, true, false, cond, eqb, ltb, ◌⊎◌, List, [], ◌∷◌, length, Some, None, Ok, Option, sym, refl, ap, ◌∙◌, subst, ⊎_elim, arith}
use Rattle.std.proofs.lemmas.Bool.{and_parts, and_from, eqb-true, eq-eqb, ltb-true, true_from_ne_false}
use Rattle.lattice.specs.declared.bracket.Bracket.{Bracket}
use Rattle.lattice.specs.Scores.{Scoring, Laws}
use Rattle.lattice.specs.Windows.{clamped}
use Rattle.games.specs.Trees.{Line, size, plain, height_of}
use Rattle.tables.specs.Tables.{TableOps, TableLaws}
use Rattle.policies.specs.Policies.{PolicyOps, PolicyLaws}
use Rattle.search.specs.declared.frame.Frame.{Frame}
use Rattle.search.specs.declared.frame.Hand.{Hand}
use Rattle.search.specs.declared.frame.Hand.TheVariants.{Enter, Holding, Nothing}
use Rattle.search.specs.Steps.{Search, rests, finished, ran, done, entries}
use Rattle.search.specs.Invariant.{Invariant, to_do}
use Rattle.search.specs.Promises.{Went}
use Rattle.search.proofs.Room.{ran_room}
use Rattle.search.proofs.Runs.{to_do_some}
use Rattle.search.proofs.Finish.{promised}
use Rattle.analyst.specs.declared.analyst.Open.{Open}
use Rattle.analyst.specs.declared.ended.Ran.{Ran}
use Rattle.analyst.specs.Calls.{State, Stack, Free, is_free, AfterBegin, AfterRun, AfterEnd, begins, runs_of, ends_of, value_of, matches, searching, none_open}
use Rattle.analyst.specs.Histories.{Account, Standing, new_account, some_with_run, line_at, account_at, open_after, Own, next, began, ran_for, ended}
use Rattle.analyst.specs.Promises.{RunRight, EndRight, Told, Freed}
use Rattle.analyst.proofs.Results.{same_ok, not_ok, yes_first, some_same}
use Rattle.analyst.proofs.Resting.{at_rest}
use Rattle.analyst.proofs.Sound.{Busy, Stands, Sound}

-- a stack that the test finds free is one
frames_none : {C : Type 0} (fs : List (Frame C)) → length fs ≡ 0 → fs ≡ []
frames_none [] e = refl
frames_none (f ∷ fs) e = absurd (omega arith)

pub free_is : {C : Type 0} (k : Stack C) → is_free k ≡ true → Free k
free_is k e =
    let (job, none) = and_parts (eqb k.job 0) (eqb (length k.frames) 0) e in
    let j : k.job ≡ 0 = eqb-true k.job 0 job in
    let f : k.frames ≡ [] = frames_none k.frames (eqb-true (length k.frames) 0 none) in
    λ i. record { places = k.places; job = j i; frames = f i }

-- f, where it holds whenever g does
or_late : (f g : Bool) → (g ≡ true → f ≡ true) → cond f true g ≡ f
or_late true g h = refl
or_late false true h = sym (h refl)
or_late false false h = refl

not_yet : (f g : Bool) → (g ≡ true → f ≡ true) → f ≡ false → g ≡ false
not_yet f true h e = sym (h refl) ∙ e
not_yet f false h e = refl

module _ {C : Type 0} where
  -- the stack of an accepted run or end is the one that the search keeps busy: a free one has job 0
  own_stack : (q : Option (Stack C)) (p r : Stack C) (s : Open C) (j : ℕ) → 1 ≤ s.job → q ≡ Some r → Free p ⊎ (q ≡ Some p) → matches s j p ≡ true → r ≡ p
  own_stack q p r s j n h w m =
      let e₁ = and_parts (eqb j s.job) _ m in
      let e₂ = and_parts (eqb p.job s.job) _ e₁.1 in
      let e : p.job ≡ s.job = eqb-true p.job s.job e₂.0 in
      ⊎_elim (λ f. let z : p.job ≡ 0 = ap (λ (k : Stack C). k.job) f in absurd (omega arith)) (λ f. some_same (sym h ∙ f)) w

module _ {S C M P : Type 0} (o : Scoring C) (st : S → C) (tb : TableOps M) where
  pub begin_sound : (x : Standing S C M P) (j : ℕ) (w : Bracket C) (k : Stack C) (y : AfterBegin S C M P) → Sound o st tb x
      → begins o x.state j w k ≡ Ok y → Sound o st tb (next x (began j w) y.state (Some y.stack))
  begin_sound x j w k y s e =
      let (idle, e₁) = yes_first (none_open x.state.search) _ _ y e in
      let (late, e₂) = yes_first (ltb x.state.jobs j) _ _ y e₁ in
      let (ordered, e₃) = yes_first (o.below w.lo w.hi) _ _ y e₂ in
      let (empty, e₄) = yes_first (is_free k) _ _ y e₃ in
      let (high, is) = yes_first (ltb (height_of x.state.line.present) k.places) _ _ y e₄ in
      let r = at_rest o st tb x s idle in
      let base : Line S = line_at x in
      let above : x.state.jobs < j = ltb-true x.state.jobs j late in
      let nothing : k.frames ≡ [] = ap (λ (z : Stack C). z.frames) (free_is k empty) in
      let room : height_of base.present < k.places =
      subst (λ (l : Line S). height_of l.present < k.places) r.same (ltb-true (height_of x.state.line.present) k.places high) in
      let big : size x.state.line.present ≡ size base.present = ap (λ (l : Line S). size l.present) r.same in
      subst (λ (z : AfterBegin S C M P). Sound o st tb (next x (began j w) z.state (Some z.stack))) (same_ok is)
      (record {
        lawful = s.lawful;
        honest = s.honest;
        jobs = let m = s.jobs in omega arith;
        stands = (
          record { places = k.places; job = j; frames = k.frames },
          refl,
          refl,
          subst
              (λ (fs : List (Frame C)). Busy o st tb base (Some (new_account base.present w))
              (record { line = x.state.line; table = x.state.table; policy = x.state.policy; jobs = j; search = Some (record { job = j; window = w; progress = record { hand = Enter w; entered = 0; used = 0 }; places = k.places; depth = 0 }) })
              (record { job = j; window = w; progress = record { hand = Enter w; entered = 0; used = 0 }; places = k.places; depth = 0 })
              (record { places = k.places; job = j; frames = fs }))
              (sym nothing)
              (record {
                numbered = omega arith;
                job_same = refl;
                places_same = refl;
                depth_same = refl;
                invariant = record {
                  underway = (ap (λ (l : Line S). l.present) (sym r.same), ap (λ (l : Line S). l.earlier) (sym r.same), refl);
                  room = room;
                  honest = s.honest;
                };
                granted = 0;
                entered = 0;
                accounted = refl;
                steps = λ z. omega arith;
                few = omega arith;
                told = refl;
              }),
        );
      })

module _ {S C M P : Type 0} (o : Scoring C) (st : S → C) (tb : TableOps M) (ch : PolicyOps P)
    (law : Laws o) (tl : TableLaws tb) (pl : PolicyLaws ch) where
  -- the value of an end
  pub value_right : (base : Line S) (w : Bracket C) (s : Search S C M P) → Invariant o st tb base w s → (fs : List (Frame C)) (h : Hand C)
      → s.frames ≡ fs → s.hand ≡ h
      → value_of o w fs h ≡ cond (rests fs h) (Some (clamped o w (plain o st base.present))) None
  value_right base w s r [] (Enter v) e f = refl
  value_right base w s r [] (Holding b) e f =
      let q : finished s ≡ true = ap (λ (gs : List (Frame C)). rests gs s.hand) e ∙ ap (λ (h : Hand C). rests [] h) f in
      let (a, is, answers) = (promised o st tb ch law tl pl).finish base w s r q in
      let same : a ≡ b = cc in
      ap (λ (v : C). Some v) (sym (ap (λ (z : Bracket C). clamped o w z.lo) same) ∙ answers.value)
  value_right base w s r [] Nothing e f = refl
  value_right base w s r (g ∷ gs) h e f = refl

  -- an accepted run or end has the busy stack
  module _ (x : Standing S C M P) (safe : Sound o st tb x) (j : ℕ) (p : Stack C) (own : Own x p) where
    busy : (s : Open C) → Stands o st tb (line_at x) (account_at x) x.state x.busy (open_after x.events) (Some s)
        → matches s j p ≡ true → Busy o st tb (line_at x) (account_at x) x.state s p
    busy s (q, is, open?, y) m =
        subst (λ (z : Stack C). Busy o st tb (line_at x) (account_at x) x.state s z) (own_stack x.busy p q s j y.numbered is own m) y

    -- one more run
    pub record RunDone (n : ℕ) (y : AfterRun S C M P) : Type 0 where
      pub sound : Sound o st tb (next x (ran_for n y.answer y.entered) y.state (Some y.stack))
      pub right : Told o st (account_at x) (λ c. RunRight c n y.answer y.entered)

    run_by : (n : ℕ) (y : AfterRun S C M P) (v : Option (Open C))
        → Stands o st tb (line_at x) (account_at x) x.state x.busy (open_after x.events) v
        → runs_of o st tb ch x.state j p n v ≡ Ok y → RunDone n y
    run_by n y None h e = absurd (not_ok e)
    run_by n y (Some s) h e =
        let (mine, is) = yes_first (matches s j p) _ _ y e in
        let b = busy s h mine in
        let base : Line S = line_at x in
        let f : Search S C M P = searching x.state s p in
        let z : Search S C M P = ran o st tb ch n f in
        let k : ℕ = entries o st tb ch n f in
        let d : ℕ = done o st tb ch n f in
        let g : Went o st tb base s.window n k f z = (promised o st tb ch law tl pl).run n f base s.window safe.lawful b.invariant in
        let did = (promised o st tb ch law tl pl).steps n f in
        let far : finished z ≡ false → to_do z + (b.granted + n) ≤ 4 * size base.present =
        λ v. omega (arith, g.falls v, b.steps (not_yet (finished z) (finished f) g.stays v)) in
        let c : Account S C = record { position = base.present; window = s.window; granted = b.granted; entered = b.entered; said_finished = finished f } in
        let r : Ran = record { steps = d; finished = finished z } in
        subst (RunDone n) (same_ok is)
        (record {
          sound = record {
            lawful = safe.lawful;
            honest = g.keeps.honest;
            jobs = safe.jobs;
            stands = (
              record { places = z.places; job = p.job; frames = z.frames },
              refl,
              h.2,
              record {
                numbered = b.numbered;
                job_same = b.job_same;
                places_same = ran_room o st tb ch n f ∙ b.places_same;
                depth_same = refl;
                invariant = record { underway = g.keeps.underway; room = g.keeps.room; honest = g.keeps.honest };
                granted = b.granted + n;
                entered = b.entered + k;
                accounted =
                    ap (some_with_run n r k) b.accounted
                    ∙ ap (λ (v : Bool). Some (record { position = base.present; window = s.window; granted = b.granted + n; entered = b.entered + k; said_finished = v }))
                    (or_late (finished z) (finished f) g.stays);
                steps = far;
                few = omega (arith, g.few, b.few);
                told = g.told b.entered b.told;
              },
            );
          };
          right = record {
            account = c;
            is = b.accounted;
            holds = record {
              ends = λ v. true_from_ne_false (finished z) (λ u. omega (arith, far u, to_do_some z));
              stays = g.stays;
              few = omega (arith, g.few, b.few);
              within = did.0;
              all = did.1;
            };
          };
        })

    pub record EndDone (y : AfterEnd S C M P) : Type 0 where
      pub sound : Sound o st tb (next x (ended y.answer) y.state None)
      pub right : Told o st (account_at x) (λ c. EndRight o st c y.answer)

    end_by : (y : AfterEnd S C M P) (v : Option (Open C))
        → Stands o st tb (line_at x) (account_at x) x.state x.busy (open_after x.events) v
        → ends_of o x.state j p v ≡ Ok y → EndDone y
    end_by y None h e = absurd (not_ok e)
    end_by y (Some s) h e =
        let (mine, is) = yes_first (matches s j p) _ _ y e in
        let b = busy s h mine in
        let base : Line S = line_at x in
        let f : Search S C M P = searching x.state s p in
        subst EndDone (same_ok is)
        (record {
          sound = record {
            lawful = safe.lawful;
            honest = safe.honest;
            jobs = safe.jobs;
            stands = record {
              same = (promised o st tb ch law tl pl).back base s.window f b.invariant;
              idle = refl;
              told = refl;
            };
          };
          right = record {
            account = record { position = base.present; window = s.window; granted = b.granted; entered = b.entered; said_finished = finished f };
            is = b.accounted;
            holds = record {
              value = value_right base s.window f b.invariant p.frames s.progress.hand refl refl;
              few = omega (arith, b.few);
              told = b.told;
            };
          };
        })

    pub run_done : (n : ℕ) (y : AfterRun S C M P) → runs_of o st tb ch x.state j p n x.state.search ≡ Ok y → RunDone n y
    run_done n y e = run_by n y x.state.search safe.stands e

    pub end_done : (y : AfterEnd S C M P) → ends_of o x.state j p x.state.search ≡ Ok y → EndDone y
    end_done y e = end_by y x.state.search safe.stands e

-- the own ticket and stack of an open search
pub own_matches : {S C M P : Type 0} (o : Scoring C) (st : S → C) (tb : TableOps M) (base : Line S) (c : Option (Account S C)) (a : State S C M P) (s : Open C) (p : Stack C)
    → Busy o st tb base c a s p → matches s s.job p ≡ true
own_matches o st tb base c a s p y =
    and_from _ _ (eq-eqb s.job s.job refl)
    (and_from _ _ (eq-eqb p.job s.job y.job_same)
    (and_from _ _ (eq-eqb p.places s.places y.places_same) (eq-eqb (length p.frames) s.depth y.depth_same)))

-- what any accepted end leaves
pub freed : {S C M P : Type 0} {G : Type 0} (line : G → Line S) (o : Scoring C) (st : S → C) (tb : TableOps M) (ch : PolicyOps P)
    (a : State S C M P) (j : ℕ) (k : Stack C) (y : AfterEnd S C M P) (v : Option (Open C)) → ends_of o a j k v ≡ Ok y → Freed line o st tb ch a k y
freed line o st tb ch a j k y None e = absurd (not_ok e)
freed line o st tb ch a j k y (Some s) e =
    let (mine, is) = yes_first (matches s j k) _ _ y e in
    subst (Freed line o st tb ch a k) (same_ok is) (record { ended = refl; free = refl; places = refl; table = refl; policy = refl })
