-- Begin, run and end on a fresh analyst, with its own ticket and stack: run and end are never refused.
use Rattle.std.proofs.Common.{◌≡◌, ℕ, ◌<◌, Bool, true, false, cond, ltb, length, Ok, Err, Result, IsOk, sym, refl, ap, ◌∙◌}
use Rattle.std.proofs.lemmas.Bool.{and_from, eq-eqb, ltb-true}
use Rattle.lattice.specs.declared.bracket.Bracket.{Bracket}
use Rattle.lattice.specs.Scores.{Scoring, Laws}
use Rattle.lattice.specs.Windows.{whole}
use Rattle.games.specs.Trees.{Line, height_of}
use Rattle.tables.specs.Tables.{TableOps}
use Rattle.policies.specs.Policies.{PolicyOps}
use Rattle.search.specs.Promises.{began}
use Rattle.search.specs.Steps.{Search, ran, done, entries}
use Rattle.search.proofs.Room.{ran_room}
use Rattle.analyst.specs.declared.analyst.Open.{Open}
use Rattle.analyst.specs.declared.analyst.ticket.RefusedEnd.{RefusedEnd}
use Rattle.analyst.specs.declared.ended.Ended.{Ended}
use Rattle.analyst.specs.declared.ended.Ran.{Ran}
use Rattle.analyst.specs.Model.{end_told}
use Rattle.analyst.specs.declared.refusal.Refusal.{Refusal}
use Rattle.analyst.specs.declared.refusal.Refusal.TheVariants.{JobNotNew, WindowNotOrdered, StackNotFree, StackTooSmall}
use Rattle.analyst.specs.Calls.{State, Stack, free_stack, is_free, marked, opening, matches, makes, AfterBegin, AfterRun, begun, begins, stopped, runs, closed, ends, answered, left}
use Rattle.analyst.proofs.Results.{same_ok, not_ok, yes_first, said_yes}
use Rattle.analyst.proofs.Searching.{free_is}
use Rattle.solver.specs.declared.once.Solved.{Solved}
use Rattle.solver.specs.Solving.{finds, solves}

module _ {A B E : Type 0} where
  -- an answered call was accepted
  pub was_ok : (f : A → B) (r : Result A E) (b : B) → answered f r ≡ Ok b → (y : A) × (r ≡ Ok y) × (f y ≡ b)
  was_ok f (Ok y) b e = (y, refl, same_ok e)
  was_ok f (Err x) b e = absurd (not_ok e)

  -- a refused one has its refusal
  pub was_err : (f : A → B) (r : Result A E) (x : E) → answered f r ≡ Err x → r ≡ Err x
  was_err f (Ok y) x e = absurd (not_ok (sym e))
  was_err f (Err z) x e = cc

-- an end that answers as an accepted one does is accepted
pub ok_is : {S C : Type 0} (st : S → C) (r : Result (Ended S) RefusedEnd) (e : Ended C) → end_told st r ≡ Ok e → IsOk r
ok_is st (Ok y) e is = refl
ok_is st (Err x) e is = absurd (not_ok is)

-- f of what a question lets through
answered_asked : {A B E : Type 0} (f : A → B) (t : Bool) (r : Result A E) (x : E) → answered f (cond t r (Err x)) ≡ cond t (answered f r) (Err x)
answered_asked f true r x = refl
answered_asked f false r x = refl

module _ {S C M P : Type 0} (o : Scoring C) (st : S → C) (tb : TableOps M) (ch : PolicyOps P) (l : Line S) (m : M) (p : P) (j n : ℕ) where
  -- the questions of begin, with the whole window, are those of a search from beginning to end
  pub solves_begins : Laws o → (k : Stack C)
      → answered (λ y. finds o st tb ch l m p k.places n) (begins o (makes tb l m p) j (whole o) k) ≡ solves o st tb ch l m p j k n
  solves_begins law k =
      let ordered : o.below o.bottom o.top ≡ true = (law.orders o.bottom o.top).1 (law.bottom_neutral o.top) in
      let f : AfterBegin S C M P → Solved C = λ y. finds o st tb ch l m p k.places n in
      let r₄ : Result (AfterBegin S C M P) Refusal = Ok (begun (makes tb l m p) j (whole o) k) in
      let r₃ : Result (AfterBegin S C M P) Refusal = cond (ltb (height_of l.present) k.places) r₄ (Err StackTooSmall) in
      let r₂ : Result (AfterBegin S C M P) Refusal = cond (is_free k) r₃ (Err StackNotFree) in
      answered_asked f (ltb 0 j) (cond (o.below o.bottom o.top) r₂ (Err WindowNotOrdered)) JobNotNew
      ∙ ap (λ (x : Result (Solved C) Refusal). cond (ltb 0 j) x (Err JobNotNew))
      (answered_asked f (o.below o.bottom o.top) r₂ WindowNotOrdered
      ∙ ap (λ (b : Bool). cond b (answered f r₂) (Err WindowNotOrdered)) ordered
      ∙ answered_asked f (is_free k) r₃ StackNotFree
      ∙ ap (λ (x : Result (Solved C) Refusal). cond (is_free k) x (Err StackNotFree))
      (answered_asked f (ltb (height_of l.present) k.places) r₄ StackTooSmall))

  module _ (q : ℕ) where
    -- begun, with a free stack of q places
    abbrev pub first : AfterBegin S C M P
    first = begun (makes tb l m p) j (whole o) (free_stack q)

    abbrev start : Search S C M P
    start = began l (whole o) (tb.clear m) p q

    -- then run for n steps
    abbrev pub stop : AfterRun S C M P
    stop =
        stopped first.state (opening j (whole o) q) first.stack (ran o st tb ch n start) (done o st tb ch n start) (entries o st tb ch n start)

    pub run_ok : runs o st tb ch first.state j first.stack n ≡ Ok stop
    run_ok =
        said_yes (matches (opening j (whole o) q) j first.stack) _ stop
        (and_from _ _ (eq-eqb j j refl) (and_from _ _ (eq-eqb j j refl) (and_from _ _ (eq-eqb q q refl) refl)))

    abbrev pub kept : Open C
    kept = record {
      job = j;
      window = whole o;
      progress = record { hand = (ran o st tb ch n start).hand; entered = (ran o st tb ch n start).entered; used = (ran o st tb ch n start).used };
      places = q;
      depth = length (ran o st tb ch n start).frames;
    }

    -- then ended
    pub end_ok : ends o stop.state j stop.stack ≡ Ok (closed o stop.state kept stop.stack)
    end_ok =
        said_yes (matches kept j stop.stack) _ (closed o stop.state kept stop.stack)
        (and_from _ _ (eq-eqb j j refl) (and_from _ _ (eq-eqb j j refl)
        (and_from _ _ (eq-eqb stop.stack.places q (ran_room o st tb ch n start)) (eq-eqb (length stop.stack.frames) (length stop.stack.frames) refl))))

  -- an accepted begin, of a stack that is then free
  pub record First (k : Stack C) (y : AfterBegin S C M P) : Type 0 where
    pub state : y.state ≡ (first k.places).state
    pub stack : y.stack ≡ (first k.places).stack
    pub high : height_of l.present < k.places

  pub begin_ok : (k : Stack C) (y : AfterBegin S C M P) → begins o (makes tb l m p) j (whole o) k ≡ Ok y → First k y
  begin_ok k y e =
      let (late, e₂) = yes_first (ltb 0 j) _ _ y e in
      let (ordered, e₃) = yes_first (o.below o.bottom o.top) _ _ y e₂ in
      let (empty, e₄) = yes_first (is_free k) _ _ y e₃ in
      let (high, is) = yes_first (ltb (height_of l.present) k.places) _ _ y e₄ in
      record {
        state = ap (λ (z : AfterBegin S C M P). z.state) (sym (same_ok is));
        stack = ap (λ (z : AfterBegin S C M P). z.stack) (sym (same_ok is)) ∙ ap (λ (z : Stack C). marked z j) (free_is k empty);
        high = ltb-true (height_of l.present) k.places high;
      }

  -- all three, as their contracts tell of them: the ticket is i
  pub record Done (k : Stack C) (r : Ran) (a : State S C M P) (k' : Stack C) (i : ℕ) : Type 0 where
    pub ran_is : r ≡ (stop k.places).answer
    pub ends_is : ends o a i k' ≡ Ok (closed o (stop k.places).state (kept k.places) (stop k.places).stack)
    pub high : height_of l.present < k.places
    pub solves_is : solves o st tb ch l m p j k n ≡ Ok (finds o st tb ch l m p k.places n)

  pub chain : Laws o → (i : ℕ) (k : Stack C) (a₀ : State S C M P) (w : Bracket C) → a₀ ≡ makes tb l m p → w ≡ whole o
      → Ok i ≡ answered (λ _. j) (begins o a₀ j w k)
      → (a₁ : State S C M P) (k₁ : Stack C) → a₁ ≡ left (λ y. y.state) a₀ (begins o a₀ j w k) → k₁ ≡ left (λ y. y.stack) k (begins o a₀ j w k)
      → (r : Ran) → Ok r ≡ answered (λ y. y.answer) (runs o st tb ch a₁ i k₁ n)
      → (a₂ : State S C M P) (k₂ : Stack C) → a₂ ≡ left (λ y. y.state) a₁ (runs o st tb ch a₁ i k₁ n) → k₂ ≡ left (λ y. y.stack) k₁ (runs o st tb ch a₁ i k₁ n)
      → Done k r a₂ k₂ i
  chain law i k a₀ w ea ew eb a₁ k₁ sa sk r er a₂ k₂ za zk =
      let (y, ok, is) = was_ok (λ y. j) (begins o a₀ j w k) i (sym eb) in
      let same : begins o a₀ j w k ≡ begins o (makes tb l m p) j (whole o) k = λ v. begins o (ea v) j (ew v) k in
      let f = begin_ok k y (sym same ∙ ok) in
      let q : ℕ = k.places in
      let ta : a₁ ≡ (first q).state = sa ∙ ap (left (λ y. y.state) a₀) ok ∙ f.state in
      let tk : k₁ ≡ (first q).stack = sk ∙ ap (left (λ y. y.stack) k) ok ∙ f.stack in
      let tj : i ≡ j = sym is in
      let went : runs o st tb ch a₁ i k₁ n ≡ Ok (stop q) = (λ v. runs o st tb ch (ta v) (tj v) (tk v) n) ∙ run_ok q in
      let ua : a₂ ≡ (stop q).state = za ∙ ap (left (λ y. y.state) a₁) went in
      let uk : k₂ ≡ (stop q).stack = zk ∙ ap (left (λ y. y.stack) k₁) went in
      record {
        ran_is = same_ok (er ∙ ap (answered (λ y. y.answer)) went);
        ends_is = (λ v. ends o (ua v) (tj v) (uk v)) ∙ end_ok q;
        high = f.high;
        solves_is = sym (solves_begins law k) ∙ ap (answered (λ y. finds o st tb ch l m p k.places n)) (sym same ∙ ok);
      }
