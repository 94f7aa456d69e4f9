-- A search with its own ticket and stack: run and end are accepted, and the other calls leave it as it is.
use Rattle.std.proofs.Common.{◌≡◌, ℕ, cond, eqb, ltb, length, Some, Ok, Err, Option, Result, sym, refl, ap, ◌∙◌}
use Rattle.std.proofs.lemmas.Bool.{and_parts, and_from, eqb-true, eq-eqb}
use Rattle.lattice.specs.declared.bracket.Bracket.{Bracket}
use Rattle.lattice.specs.Scores.{Scoring}
use Rattle.games.specs.Trees.{Line, height_of}
use Rattle.tables.specs.Tables.{TableOps}
use Rattle.policies.specs.Policies.{PolicyOps}
use Rattle.search.specs.Steps.{Search, ran, done, entries}
use Rattle.search.proofs.Room.{ran_room}
use Rattle.analyst.specs.declared.analyst.Open.{Open}
use Rattle.analyst.specs.declared.refusal.Refusal.{Refusal}
use Rattle.analyst.specs.declared.refusal.Refusal.TheVariants.{SearchOpen}
use Rattle.analyst.specs.Calls.{State, Stack, is_free, none_open, opening, matches, searching, stopped, closed, AfterBegin, AfterRun, Mine, loads, plays, takes_back, begins, runs, runs_of, ends, ends_of, answered, left}
use Rattle.analyst.proofs.Results.{same_ok, not_ok, yes_first, said_yes}
use Rattle.analyst.proofs.Searching.{free_is}

-- while a search is open, a call that asks for none is refused
refused_open : {C A : Type 0} (v : Option (Open C)) (s : Open C) (r : Result A Refusal) → v ≡ Some s → cond (none_open v) r (Err SearchOpen) ≡ Err SearchOpen
refused_open v s r e = ap (λ w. cond (none_open w) r (Err SearchOpen)) e

module _ {S C M P : Type 0} where
  -- load, play, take back and begin are refused, and so leave it
  pub own_load : (tb : TableOps M) (a : State S C M P) (j : ℕ) (k : Stack C) → Mine a j k → (l : Line S) → loads tb a l ≡ Err SearchOpen
  own_load tb a j k y l = refused_open a.search y.underway _ y.is

  pub own_play : (a : State S C M P) (j : ℕ) (k : Stack C) → Mine a j k → (n : ℕ) → plays a n ≡ Err SearchOpen
  own_play a j k y n = refused_open a.search y.underway _ y.is

  pub own_take_back : (a : State S C M P) (j : ℕ) (k : Stack C) → Mine a j k → takes_back a ≡ Err SearchOpen
  own_take_back a j k y = refused_open a.search y.underway _ y.is

  pub own_begin : (o : Scoring C) (a : State S C M P) (j : ℕ) (k : Stack C) → Mine a j k → (i : ℕ) (w : Bracket C) (q : Stack C) → begins o a i w q ≡ Err SearchOpen
  own_begin o a j k y i w q = refused_open a.search y.underway _ y.is

  -- an accepted begin makes it
  pub begun_own : (o : Scoring C) (a : State S C M P) (j : ℕ) (w : Bracket C) (k : Stack C) (y : AfterBegin S C M P) → begins o a j w k ≡ Ok y → Mine y.state j y.stack
  begun_own o a j w k y e =
      let (idle, e₁) = yes_first (none_open a.search) _ _ y e in
      let (late, e₂) = yes_first (ltb a.jobs j) _ _ y e₁ in
      let (ordered, e₃) = yes_first (o.below w.lo w.hi) _ _ y e₂ in
      let (empty, e₄) = yes_first (is_free k) _ _ y e₃ in
      let (high, is) = yes_first (ltb (height_of a.line.present) k.places) _ _ y e₄ in
      let none : length k.frames ≡ 0 = ap (λ (z : Stack C). length z.frames) (free_is k empty) in
      let same = same_ok is in
      record {
        underway = opening j w k.places;
        is = ap (λ (z : AfterBegin S C M P). z.state.search) (sym same);
        own =
            ap (λ (z : AfterBegin S C M P). matches (opening j w k.places) j z.stack) (sym same)
            ∙ and_from _ _ (eq-eqb j j refl) (and_from _ _ (eq-eqb j j refl)
            (and_from _ _ (eq-eqb k.places k.places refl) (eq-eqb (length k.frames) 0 none)));
      }

module _ {S C M P : Type 0} (o : Scoring C) (st : S → C) (tb : TableOps M) (ch : PolicyOps P) where
  -- run is accepted, and keeps it
  pub record RunOwn (a : State S C M P) (j : ℕ) (k : Stack C) (n : ℕ) : Type 0 where
    pub after : AfterRun S C M P
    pub is : runs o st tb ch a j k n ≡ Ok after
    pub own : Mine after.state j after.stack

  pub run_own : (a : State S C M P) (j : ℕ) (k : Stack C) → Mine a j k → (n : ℕ) → RunOwn a j k n
  run_own a j k y n =
      let s : Open C = y.underway in
      let x : Search S C M P = searching a s k in
      let z : Search S C M P = ran o st tb ch n x in
      let e₁ = and_parts (eqb j s.job) _ y.own in
      let e₂ = and_parts (eqb k.job s.job) _ e₁.1 in
      let e₃ = and_parts (eqb k.places s.places) _ e₂.1 in
      let places : z.places ≡ s.places = ran_room o st tb ch n x ∙ eqb-true k.places s.places e₃.0 in
      record {
        after = stopped a s k z (done o st tb ch n x) (entries o st tb ch n x);
        is = ap (runs_of o st tb ch a j k n) y.is ∙ said_yes (matches s j k) _ _ y.own;
        own = record {
          underway = _;
          is = refl;
          own =
              and_from _ _ e₁.0 (and_from _ _ e₂.0
              (and_from _ _ (eq-eqb z.places s.places places) (eq-eqb (length z.frames) (length z.frames) refl)));
        };
      }

-- end is accepted
module _ {S C M P : Type 0} (o : Scoring C) where
  pub end_own : (a : State S C M P) (j : ℕ) (k : Stack C) (y : Mine a j k) → ends o a j k ≡ Ok (closed o a y.underway k)
  end_own a j k y = ap (ends_of o a j k) y.is ∙ said_yes (matches y.underway j k) _ _ y.own

module _ {S C M P : Type 0} where
  -- the same of an analyst, a job and a stack that equal them
  pub moved : (a b : State S C M P) (i j : ℕ) (k q : Stack C) → b ≡ a → j ≡ i → q ≡ k → Mine a i k → Mine b j q
  moved a b i j k q ea ej ek m = record {
    underway = m.underway;
    is = ap (λ (z : State S C M P). z.search) ea ∙ m.is;
    own = (λ v. matches m.underway (ej v) (ek v)) ∙ m.own;
  }

  -- as the contract of begin tells it: its ticket is t
  pub begun_mine : (o : Scoring C) (a : State S C M P) (j : ℕ) (w : Bracket C) (k : Stack C) (t : ℕ) → Ok t ≡ answered (λ _. j) (begins o a j w k)
      → (b : State S C M P) (q : Stack C) → b ≡ left (λ y. y.state) a (begins o a j w k) → q ≡ left (λ y. y.stack) k (begins o a j w k) → Mine b t q
  begun_mine o a j w k t e b q eb eq =
      let (y, ok, is) = accepted (begins o a j w k) e in
      moved y.state b j t y.stack q (eb ∙ ap (left (λ y. y.state) a) ok) is (eq ∙ ap (left (λ y. y.stack) k) ok)
      (begun_own o a j w k y ok)
    where
      accepted : (r : Result (AfterBegin S C M P) Refusal) → Ok t ≡ answered (λ _. j) r → (y : AfterBegin S C M P) × (r ≡ Ok y) × (t ≡ j)
      accepted (Ok y) e = (y, refl, same_ok e)
      accepted (Err r) e = absurd (not_ok (sym e))

  -- as the contract of run tells it
  pub ran_mine : (o : Scoring C) (st : S → C) (tb : TableOps M) (ch : PolicyOps P) (a : State S C M P) (j : ℕ) (k : Stack C) (n : ℕ) → Mine a j k
      → (b : State S C M P) (q : Stack C) → b ≡ left (λ y. y.state) a (runs o st tb ch a j k n) → q ≡ left (λ y. y.stack) k (runs o st tb ch a j k n) → Mine b j q
  ran_mine o st tb ch a j k n m b q eb eq =
      let r = run_own o st tb ch a j k m n in
      moved r.after.state b j j r.after.stack q
      (eb ∙ ap (left (λ y. y.state) a) r.is) refl (eq ∙ ap (left (λ y. y.stack) k) r.is) r.own
