-- The search that the program makes of a problem: Front over Direct with 61 places, Recent over Highest, a stack of 65
-- places, the whole window, the line's number as job, and one run.
use Rattle.std.specs.Prelude.{ℕ, Bool, List, replicate, None, Option, Result}
use Rattle.lattice.specs.declared.family.Family.{Family}
use Rattle.lattice.specs.declared.tricks.Tricks.{Tricks}
use Rattle.lattice.specs.Scores.{Scoring}
use Rattle.lattice.specs.FamilyScores.{FamilyScore, family_scoring, family_of}
use Rattle.lattice.specs.TrickScores.{TrickScore, trick_scoring, tricks_of}
use Rattle.games.specs.Trees.{Line}
use Rattle.tables.specs.declared.claim.Claim.{Claim}
use Rattle.tables.specs.Tables.{TableOps, Layered, layered_ops}
use Rattle.tables.specs.Places.{place_ops}
use Rattle.policies.specs.Policies.{PolicyOps, Layered as Noticing, recent_ops, highest_ops}
use Rattle.lines.specs.Deals.{Deal}
use Rattle.cardplay.specs.Dealing.{dealt}
use Rattle.deals.specs.Scores.{tricks_won, sets_made}
use Rattle.deals.specs.Stands.{first_stand, line_of}
use Rattle.analyst.specs.declared.refusal.Refusal.{Refusal}
use Rattle.analyst.specs.Calls.{free_stack}
use Rattle.solver.specs.declared.once.Solved.{Solved}
use Rattle.solver.specs.Solving.{ends_at, solves}

-- the steps granted
unfoldable pub granted : ℕ
granted = 1000000

-- the table: its operations, and a new one over some places
abbrev pub table_ops : TableOps (Layered (List (Option Claim)) (List (Option Claim)))
table_ops = layered_ops place_ops place_ops

abbrev pub table_over : List (Option Claim) → Layered (List (Option Claim)) (List (Option Claim))
table_over places = record { own = replicate 32 None; below = places }

-- the policy, and a new one
abbrev pub policy_ops : PolicyOps (Noticing (Unit {0}))
policy_ops = recent_ops highest_ops

abbrev pub new_policy : Noticing (Unit {0})
new_policy = record { noticed = replicate 64 None; below = tt }

-- the line n, with the positions l, searched for so many steps
abbrev pub searched : {S C : Type 0} → Scoring C → (S → C) → Line S → ℕ → ℕ → Result (Solved C) Refusal
searched o st l n steps = solves o st table_ops policy_ops l (table_over (replicate 61 None)) new_policy n (free_stack 65) steps

-- whether that search is itself at its end once so many steps are granted: its stack is empty, and it holds a bracket
abbrev pub searched_to_end : {S C : Type 0} → Scoring C → (S → C) → Line S → ℕ → Bool
searched_to_end o st l steps = ends_at o st table_ops policy_ops l (table_over (replicate 61 None)) new_policy 65 steps

-- what is found of a deal in the trick game, and in the plan game with a target
abbrev pub tricks_line : Deal → Line Tricks
tricks_line d = line_of tricks_won (first_stand (dealt d))

abbrev pub plan_line : ℕ → Deal → Line Family
plan_line t d = line_of (sets_made t) (first_stand (dealt d))

abbrev pub tricks_solved : ℕ → Deal → ℕ → Result (Solved TrickScore) Refusal
tricks_solved n d steps = searched trick_scoring tricks_of (tricks_line d) n steps

abbrev pub plan_solved : ℕ → ℕ → Deal → ℕ → Result (Solved FamilyScore) Refusal
plan_solved n t d steps = searched family_scoring family_of (plan_line t d) n steps
