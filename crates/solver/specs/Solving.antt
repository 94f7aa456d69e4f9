-- What a search of a fresh analyst, from beginning to end, comes to.
use Rattle.std.specs.Prelude.{◌≡◌, ℕ, ◌*◌, ◌≤◌, Bool, true, false, cond, [], ◌∷◌, Some, None, Ok, Err, Result, nat_lt}
use Rattle.std.specs.Option.{is_some}
use Rattle.lattice.specs.Scores.{Scoring}
use Rattle.lattice.specs.Windows.{whole}
use Rattle.games.specs.Trees.{Tree, Line, height_of, size, plain}
use Rattle.tables.specs.Tables.{TableOps}
use Rattle.policies.specs.Policies.{PolicyOps}
use Rattle.search.specs.Promises.{began, Tells}
use Rattle.search.specs.Steps.{Search, finished, ran, done}
use Rattle.analyst.specs.declared.refusal.Refusal.{Refusal}
use Rattle.analyst.specs.declared.refusal.Refusal.TheVariants.{JobNotNew, StackNotFree, StackTooSmall}
use Rattle.analyst.specs.Calls.{Stack, is_free, value_of}
use Rattle.analyst.specs.Model.{ended_of}
use Rattle.analyst.specs.Questions.{◌unless◌, asked}
use Rattle.solver.specs.declared.once.Solved.{Solved}

-- whether the search is finished: its value is there
abbrev pub is_finished : {C : Type 0} → Solved C → Bool
is_finished f = is_some f.ended.value

module _ {S C : Type 0} (st : S → C) where
  -- what was found, by the score that its value stands for
  abbrev pub meaning : Solved S → Solved C
  meaning f = record { steps = f.steps; ended = ended_of st f.ended }

  abbrev pub solved_of : {E : Type 0} → Result (Solved S) E → Result (Solved C) E
  solved_of (Ok f) = Ok (meaning f)
  solved_of (Err e) = Err e

module _ {S C M P : Type 0} (o : Scoring C) (st : S → C) (tb : TableOps M) (ch : PolicyOps P) where
  -- what a search x has found, after n steps
  abbrev pub found : ℕ → Search S C M P → Solved C
  found n x =
      record { steps = n; ended = record { entered = x.entered; used = x.used; value = value_of o (whole o) x.frames x.hand } }

  -- the search of a line with a cleared table and a stack of so many places, once n steps are granted
  abbrev pub finds : Line S → M → P → ℕ → ℕ → Solved C
  finds l m p places n =
      let x : Search S C M P = began l (whole o) (tb.clear m) p places in
      found (done o st tb ch n x) (ran o st tb ch n x)

  -- the same with the questions asked before it: a job above 0, a free stack, and enough places
  abbrev pub solves : Line S → M → P → ℕ → Stack C → ℕ → Result (Solved C) Refusal
  solves l m p j k n =
      asked
      (JobNotNew unless nat_lt 0 j
      ∷ StackNotFree unless is_free k
      ∷ StackTooSmall unless nat_lt (height_of l.present) k.places
      ∷ [])
      (finds l m p k.places n)

  -- whether the search of finds is itself at its end, once n steps are granted: its stack is empty, and it holds a bracket
  abbrev pub ends_at : Line S → M → P → ℕ → ℕ → Bool
  ends_at l m p places n =
      let x : Search S C M P = began l (whole o) (tb.clear m) p places in
      finished (ran o st tb ch n x)

-- what was found is right for the position t, with n steps granted
pub record SolvedRight {S C : Type 0} (o : Scoring C) (st : S → C) (t : Tree S) (n : ℕ) (f : Solved C) : Type 0 where
  -- a value exactly if the search is finished, and it is the plain value
  pub value : f.ended.value ≡ cond (is_finished f) (Some (plain o st t)) None
  -- it is finished once four steps are granted for each position
  pub ends : 4 * size t ≤ n → is_finished f ≡ true
  -- no more positions are entered than there are, and the answer tells how many
  pub entries : ℕ
  pub few : entries ≤ size t
  pub told : Tells f.ended.entered entries
  -- no more steps are done than are granted, and all of them unless it is finished
  pub within : f.steps ≤ n
  pub all : is_finished f ≡ false → f.steps ≡ n

-- what a search that is accepted found is right
abbrev pub SolvesRight : {S C E : Type 0} → Scoring C → (S → C) → Tree S → ℕ → Result (Solved C) E → Type 0
SolvesRight o st t n (Ok f) = SolvedRight o st t n f
SolvesRight o st t n (Err e) = Unit {0}

-- what a search that is accepted found has a value exactly where the search itself is at its end, which b tells
abbrev pub SolvesToEnd : {C E : Type 0} → Bool → Result (Solved C) E → Type 0
SolvesToEnd b (Ok f) = is_finished f ≡ b
SolvesToEnd b (Err e) = Unit {0}
