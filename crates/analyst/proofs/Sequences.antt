-- Every standing that calls lead to is sound; so what is promised of any sequence of calls holds.
use Rattle.std.proofs.Common.{◌≡◌, ℕ, Bool, true, false, cond, Some, None, Ok, Err, Option, Result, sym, refl, ap, ◌∙◌, subst}
use Rattle.lattice.specs.Scores.{Scoring, Laws}
use Rattle.games.specs.Trees.{Line, Lawful}
use Rattle.tables.specs.Tables.{TableOps, TableLaws}
use Rattle.policies.specs.Policies.{PolicyOps, PolicyLaws}
use Rattle.analyst.specs.declared.analyst.Open.{Open}
use Rattle.analyst.specs.declared.ended.Ended.{Ended}
use Rattle.analyst.specs.declared.ended.Ran.{Ran}
use Rattle.analyst.specs.declared.refusal.Refusal.{Refusal}
use Rattle.analyst.specs.Calls.{State, Stack, AfterRun, AfterEnd, loads, plays, takes_back, begins, runs, runs_of, ends, ends_of, none_open, matches, answered, left}
use Rattle.analyst.specs.Histories.{Account, Standing, line_at, account_at, open_after, told, History, made, load, play, take_back, begin, run, end, clear}
use Rattle.analyst.specs.Promises.{RunRight, EndRight, RunsRight, EndsRight, Accepted, Promise}
use Rattle.analyst.proofs.Results.{same_ok, not_ok, said_yes, by_result}
use Rattle.analyst.proofs.Sound.{Rested, Stands, Sound}
use Rattle.analyst.proofs.Resting.{refused_sound, made_sound, load_sound, play_sound, take_back_sound, clear_sound}
use Rattle.analyst.proofs.Searching.{begin_sound, run_done, end_done, own_matches, freed}

module _ {G S C M P : Type 0} (line : G → Line S) (o : Scoring C) (st : S → C) (tb : TableOps M) (ch : PolicyOps P)
    (law : Laws o) (lawful : (g : G) → Lawful (line g)) (tl : TableLaws tb) (pl : PolicyLaws ch) where
  -- accepted or refused
  either : {A : Type 0} (x : Standing S C M P) (f : A → Standing S C M P) (r : Result A Refusal) → Sound o st tb x
      → ((y : A) → r ≡ Ok y → Sound o st tb (f y)) → Sound o st tb (told x f r)
  either x f r s accepted = by_result r (λ r. Sound o st tb (told x f r)) accepted (λ e. refused_sound o st tb x e s)

  pub sound : {x : Standing S C M P} → History line o st tb ch x → Sound o st tb x
  sound (made g m p) = made_sound o st tb tl (line g) m p (lawful g)
  sound (load {x} g h) = either x _ (loads tb x.state (line g)) (sound h) (λ b e. load_sound o st tb tl x (line g) b (lawful g) (sound h) e)
  sound (play {x} n h) = either x _ (plays x.state n) (sound h) (λ b e. play_sound o st tb x n b (sound h) e)
  sound (take_back {x} h) = either x _ (takes_back x.state) (sound h) (λ b e. take_back_sound o st tb x b (sound h) e)
  sound (begin {x} j w k own h) = either x _ (begins o x.state j w k) (sound h) (λ y e. begin_sound o st tb x j w k y (sound h) e)
  sound (run {x} j k n own h) =
      either x _ (runs o st tb ch x.state j k n) (sound h) (λ y e. (run_done o st tb ch law tl pl x (sound h) j k own n y e).sound)
  sound (end {x} j k own h) =
      either x _ (ends o x.state j k) (sound h) (λ y e. (end_done o st tb ch law tl pl x (sound h) j k own y e).sound)
  sound (clear {x} h) = clear_sound o st tb tl x (sound h)

  rest_told : (base : Line S) (c : Option (Account S C)) (a : State S C M P) (q : Option (Stack C)) (open? : Bool) (v : Option (Open C))
      → Stands o st tb base c a q open? v → none_open v ≡ cond open? false true
  rest_told base c a q open? None h = sym (ap (λ (b : Bool). cond b false true) h.told)
  rest_told base c a q open? (Some s) h = sym (ap (λ (b : Bool). cond b false true) h.2)

  accepts : (x : Standing S C M P) (s : Open C) → History line o st tb ch x → x.state.search ≡ Some s → Accepted line o st tb ch x s
  accepts x s h e =
      let (k, is, open?, y) =
      subst (Stands o st tb (line_at x) (account_at x) x.state x.busy (open_after x.events)) e (sound h).stands in
      let m = own_matches o st tb (line_at x) (account_at x) x.state s k y in
      record {
        stack = k;
        busy = is;
        run = λ n. (_, ap (runs_of o st tb ch x.state s.job k n) e ∙ said_yes (matches s s.job k) _ _ m);
        end = (_, ap (ends_of o x.state s.job k) e ∙ said_yes (matches s s.job k) _ _ m);
      }

  pub promised : Promise line o st tb ch
  promised = record {
    at_end = λ x h j k own y e. (end_done o st tb ch law tl pl x (sound h) j k own y e).right;
    at_run = λ x h j k n own y e. (run_done o st tb ch law tl pl x (sound h) j k own n y e).right;
    opens = λ x h.
        rest_told (line_at x) (account_at x) x.state x.busy (open_after x.events) x.state.search (sound h).stands;
    jobs = λ x h. (sound h).jobs;
    at_rest = λ x h e.
        let r : Rested o st tb (line_at x) x.state x.busy (open_after x.events) =
        subst (Stands o st tb (line_at x) (account_at x) x.state x.busy (open_after x.events)) e (sound h).stands in
        (r.same, r.idle);
    own_accepted = λ x h s e. accepts x s h e;
    end_frees = λ a j k y e. freed line o st tb ch a j k y a.search e;
    claims = λ x h. (sound h).honest;
  }

  -- the same of a run and an end that answer as the definitions say
  run_told : (r : Result (AfterRun S C M P) Refusal) (y : Ran) → answered (λ z. z.answer) r ≡ Ok y
      → (z : AfterRun S C M P) × (r ≡ Ok z) × (z.answer ≡ y) × (left (λ z. z.entered) 0 r ≡ z.entered)
  run_told (Ok z) y e = (z, refl, same_ok e, refl)
  run_told (Err f) y e = absurd (not_ok e)

  pub runs_right : (a : State S C M P) (j : ℕ) (k : Stack C) (n : ℕ) (r : Result Ran Refusal)
      → r ≡ answered (λ z. z.answer) (runs o st tb ch a j k n) → RunsRight line o st tb ch a j k n r
  runs_right a j k n r is x h at own y e =
      let (z, ok, same, entered) = run_told (runs o st tb ch a j k n) y (sym is ∙ e) in
      let t = promised.at_run x h j k n own z (ap (λ (b : State S C M P). runs o st tb ch b j k n) at ∙ ok) in
      record {
        account = t.account;
        is = t.is;
        holds = subst (λ (m : ℕ). RunRight t.account n y m) (sym entered)
            (subst (λ (q : Ran). RunRight t.account n q z.entered) same t.holds);
      }

  end_told : (r : Result (AfterEnd S C M P) Refusal) (y : Ended C) → answered (λ z. z.answer) r ≡ Ok y
      → (z : AfterEnd S C M P) × (r ≡ Ok z) × (z.answer ≡ y)
  end_told (Ok z) y e = (z, refl, same_ok e)
  end_told (Err f) y e = absurd (not_ok e)

  pub ends_right : (a : State S C M P) (j : ℕ) (k : Stack C) (r : Result (Ended C) Refusal)
      → r ≡ answered (λ z. z.answer) (ends o a j k) → EndsRight line o st tb ch a k r
  ends_right a j k r is x h at own y e =
      let (z, ok, same) = end_told (ends o a j k) y (sym is ∙ e) in
      let t = promised.at_end x h j k own z (ap (λ (b : State S C M P). ends o b j k) at ∙ ok) in
      record {
        account = t.account;
        is = t.is;
        holds = subst (λ (q : Ended C). EndRight o st t.account q) same t.holds;
      }
