-- The questions before each call: the first whose answer is no refuses it.
use Rattle.std.specs.Prelude.{ℕ, Bool, cond, List, [], ◌∷◌, Ok, Err, Result}
use Rattle.analyst.specs.declared.refusal.Refusal.{Refusal}
use Rattle.analyst.specs.declared.refusal.Refusal.TheVariants.{SearchOpen, NoSuchPlace, NothingToTakeBack, JobNotNew, WindowNotOrdered, StackNotFree, StackTooSmall, NotThisSearch}

-- the number of a refusal's question
abbrev pub number_of : Refusal → ℕ
number_of SearchOpen = 1
number_of NoSuchPlace = 2
number_of NothingToTakeBack = 3
number_of JobNotNew = 4
number_of WindowNotOrdered = 5
number_of StackNotFree = 6
number_of StackTooSmall = 7
number_of NotThisSearch = 8

-- a question: its answer, and why a call is refused if that is no
pub record Question : Type 0 where
  pub refusal : Refusal
  pub answer : Bool

infix 70 ◌unless◌
abbrev pub ◌unless◌ : Refusal → Bool → Question
r unless b = record { refusal = r; answer = b }

-- what an accepted call comes to, or the first question whose answer is no
abbrev pub asked : {A : Type 0} → List Question → A → Result A Refusal
asked [] a = Ok a
asked (q ∷ qs) a = cond q.answer (asked qs a) (Err q.refusal)
