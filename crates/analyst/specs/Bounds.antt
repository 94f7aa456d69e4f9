-- The calls on an analyst as the program holds it: what they come to by what it means, and what is right of them.
use Rattle.std.specs.Prelude.{ℕ, Result}
use Rattle.lattice.specs.declared.bracket.Bracket.{Bracket}
use Rattle.lattice.specs.declared.Lattice.{Ghosts as Scores}
use Rattle.lattice.specs.Windows.{scored}
use Rattle.games.specs.declared.Game.{Ghosts as Games}
use Rattle.tables.specs.declared.Table.{Ghosts as Tables}
use Rattle.policies.specs.declared.Policy.{Ghosts as Policies}
use Rattle.search.specs.declared.stack.SearchStack.{SearchStack}
use Rattle.analyst.specs.declared.analyst.Analyst.{Analyst}
use Rattle.analyst.specs.declared.ended.Ended.{Ended}
use Rattle.analyst.specs.declared.ended.Ran.{Ran}
use Rattle.analyst.specs.declared.refusal.Refusal.{Refusal}
use Rattle.analyst.specs.Calls.{State, AfterBegin, AfterRun, AfterEnd, loads, begins, runs, ends}
use Rattle.analyst.specs.Model.{state_of, stack_of, end_told}
use Rattle.analyst.specs.Promises.{RunsRight, EndsRight, Promise}

module _ {G T Q S : Type 0} {game : Games G S} {score : Scores S} {table : Tables T} {policy : Policies Q}
    (a : Analyst G T Q S game score table policy) where
  -- what a load of the game g comes to
  abbrev pub load_of : G → Result (State S score.Score table.Model policy.Model) Refusal
  load_of g = loads table.ops (state_of a) (game.line g)

  -- a begin with the job j, the window w and the stack k
  abbrev pub begin_of : ℕ → Bracket S → SearchStack S score → Result (AfterBegin S score.Score table.Model policy.Model) Refusal
  begin_of j w k = begins score.scoring (state_of a) j (scored score.stands w) (stack_of k)

  -- a run of up to n steps with the ticket j and the stack k, and an end with them
  abbrev pub run_of : ℕ → SearchStack S score → ℕ → Result (AfterRun S score.Score table.Model policy.Model) Refusal
  run_of j k n = runs score.scoring score.stands table.ops policy.ops (state_of a) j (stack_of k) n

  abbrev pub end_of : ℕ → SearchStack S score → Result (AfterEnd S score.Score table.Model policy.Model) Refusal
  end_of j k = ends score.scoring (state_of a) j (stack_of k)

  -- whatever history led here, what that run answers is right, and so is what an end answers
  abbrev pub RunsRightOf : ℕ → SearchStack S score → ℕ → Result Ran Refusal → Type 0
  RunsRightOf j k n r = RunsRight game.line score.scoring score.stands table.ops policy.ops (state_of a) j (stack_of k) n r

  abbrev pub EndsRightOf : {E : Type 0} → SearchStack S score → Result (Ended S) E → Type 0
  EndsRightOf k r = EndsRight game.line score.scoring score.stands table.ops policy.ops (state_of a) (stack_of k) (end_told score.stands r)

-- the promise of any sequence of calls
abbrev pub PromiseOf : {G T Q S : Type 0} → Scores S → Games G S → Tables T → Policies Q → Type 0
PromiseOf score game table policy = Promise game.line score.scoring score.stands table.ops policy.ops
