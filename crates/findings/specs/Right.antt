-- What the answers of accepted lines say.
use Rattle.std.specs.Prelude.{◌≡◌, ℕ, ◌<◌, Some, Ok, Err, Result}
use Rattle.lattice.specs.FamilyScores.{FamilyScore, family_scoring, family_of}
use Rattle.lattice.specs.TrickScores.{TrickScore, trick_scoring, tricks_of}
use Rattle.lines.specs.declared.fault.Fault.{Fault}
use Rattle.lines.specs.Deals.{Asked, tricks, plan, Deal}
use Rattle.cardplay.specs.Dealing.{dealt}
use Rattle.deals.specs.Plans.{Beaten}
use Rattle.deals.specs.Stands.{first_stand}
use Rattle.solver.specs.declared.once.Solved.{Solved}
use Rattle.solver.specs.Solving.{is_finished, SolvedRight}
use Rattle.findings.specs.Searched.{granted, searched_to_end, tricks_line, plan_line, tricks_solved, plan_solved}

-- the search of a line that asks for tricks is not refused, and what it finds is right for the deal's first position;
-- it has a value, and the line says finished, exactly where the search itself is at its end
pub record TricksRight (n : ℕ) (d : Deal) : Type 0 where
  pub found : Solved TrickScore
  pub is : tricks_solved n d granted ≡ Ok found
  pub right : SolvedRight trick_scoring tricks_of (tricks_line d).present granted found
  pub ends : is_finished found ≡ searched_to_end trick_scoring tricks_of (tricks_line d) granted

-- the same of a line that asks for a plan; a value holds a set of layouts exactly when one plan from the first position
-- makes the target in each of them
pub record PlanRight (n t : ℕ) (d : Deal) : Type 0 where
  pub found : Solved FamilyScore
  pub is : plan_solved n t d granted ≡ Ok found
  pub right : SolvedRight family_scoring family_of (plan_line t d).present granted found
  pub ends : is_finished found ≡ searched_to_end family_scoring family_of (plan_line t d) granted
  pub plans : (v : FamilyScore) → found.ended.value ≡ Some v → Beaten (first_stand (dealt d)) t v

abbrev pub DealRight : ℕ → Asked → Deal → Type 0
DealRight n tricks d = TricksRight n d
DealRight n (plan t) d = PlanRight n t d

-- so it is for every accepted line, numbered from 1
abbrev pub AnswerRight : ℕ → Result Deal Fault → Type 0
AnswerRight n (Ok d) = 0 < n → DealRight n d.asked d
AnswerRight n (Err f) = Unit {0}
