-- A search from beginning to end, and what is right of it, told the bounds of a clause whole.
use Rattle.std.specs.Prelude.{ℕ, Result}
use Rattle.lattice.specs.declared.Lattice.{Ghosts as Scores}
use Rattle.games.specs.declared.Game.{Ghosts as Games}
use Rattle.tables.specs.declared.Table.{Ghosts as Tables}
use Rattle.policies.specs.declared.Policy.{Ghosts as Policies}
use Rattle.search.specs.declared.stack.SearchStack.{SearchStack}
use Rattle.analyst.specs.declared.refusal.Refusal.{Refusal}
use Rattle.analyst.specs.Model.{stack_of}
use Rattle.solver.specs.declared.once.Solved.{Solved}
use Rattle.solver.specs.Solving.{ends_at, solves, solved_of, SolvesRight, SolvesToEnd}

module _ {G S : Type 0} {score : Scores S} (game : Games G S) where
  -- the search of the game g with the table t, the policy p, the job j, the stack k and n steps
  abbrev pub solves_of : {T P : Type 0} (table : Tables T) (policy : Policies P) → G → T → P → ℕ → SearchStack S score → ℕ → Result (Solved score.Score) Refusal
  solves_of table policy g t p j k n =
      solves score.scoring score.stands table.ops policy.ops (game.line g) (table.model t) (policy.model p) j (stack_of k) n

  -- what it found has a value exactly where that search is itself at its end
  abbrev pub SolvesToEndOf : {T P E : Type 0} (table : Tables T) (policy : Policies P) → G → T → P → SearchStack S score → ℕ → Result (Solved S) E → Type 0
  SolvesToEndOf table policy g t p k n r =
      SolvesToEnd (ends_at score.scoring score.stands table.ops policy.ops (game.line g) (table.model t) (policy.model p) (stack_of k).places n) r

-- what it found is right for the present position of g
abbrev pub SolvesRightOf : {G S E : Type 0} (score : Scores S) (game : Games G S) → G → ℕ → Result (Solved S) E → Type 0
SolvesRightOf score game g n r = SolvesRight score.scoring score.stands (game.line g).present n (solved_of score.stands r)
