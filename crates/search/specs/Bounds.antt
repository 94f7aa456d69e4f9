-- The words of a search, told by what the bounds of its engine mean: the scores, the game, the table and the policy,
-- in a clause G.Score.Lattice, G.Game, T.Table and P.Policy. Where w takes their operations one by one, w_of takes them whole.
use Rattle.std.specs.Prelude.{ℕ, List}
use Rattle.lattice.specs.declared.Lattice.{Ghosts as Scores}
use Rattle.lattice.specs.declared.bracket.Bracket.{Bracket}
use Rattle.games.specs.declared.Game.{Ghosts as Games}
use Rattle.games.specs.Trees.{Line}
use Rattle.tables.specs.declared.Table.{Ghosts as Tables}
use Rattle.policies.specs.declared.Policy.{Ghosts as Policies}
use Rattle.search.specs.declared.engine.Engine.{Engine}
use Rattle.search.specs.declared.frame.Frame.{Frame}
use Rattle.search.specs.declared.frame.Hand.{Hand}
use Rattle.search.specs.declared.frame.Progress.{Progress}
use Rattle.search.specs.declared.stack.SearchStack.{SearchStack}
use Rattle.search.specs.Steps.{Search, closed, stepped_by, stepped, ran, done, entries}
use Rattle.search.specs.Promises.{StepKeeps, RunKeeps, Home, Promise}
use Rattle.search.specs.Stacks.{searching}

-- the state of a search by its engine, stack and progress
abbrev pub search_of : {G S T P : Type 0} {score : Scores S} (game : Games G S) (table : Tables T) (policy : Policies P)
    → Engine G T P S → SearchStack S score → Progress S → Search S score.Score table.Model policy.Model
search_of {score = score} game table policy e k g = searching score.stands game.line table.model policy.model e k g

module _ {S T : Type 0} (score : Scores S) (table : Tables T) {P : Type 0} where
  abbrev pub closed_of : Search S score.Score table.Model P → P → List (Frame score.Score) → Bracket score.Score → Search S score.Score table.Model P
  closed_of s p fs b = closed score.scoring table.ops s p fs b

  abbrev pub StepKeepsOf : Search S score.Score table.Model P → Search S score.Score table.Model P → Type 0
  StepKeepsOf s z = StepKeeps score.scoring score.stands table.ops s z

  abbrev pub HomeOf : Search S score.Score table.Model P → Line S → Type 0
  HomeOf s l = Home score.scoring score.stands table.ops s l

module _ {S T P : Type 0} (score : Scores S) (table : Tables T) (policy : Policies P) where
  abbrev pub stepped_by_of : Search S score.Score table.Model policy.Model → Hand score.Score → Search S score.Score table.Model policy.Model
  stepped_by_of s h = stepped_by score.scoring score.stands table.ops policy.ops s h

  abbrev pub stepped_of : Search S score.Score table.Model policy.Model → Search S score.Score table.Model policy.Model
  stepped_of s = stepped score.scoring score.stands table.ops policy.ops s

  abbrev pub ran_of : ℕ → Search S score.Score table.Model policy.Model → Search S score.Score table.Model policy.Model
  ran_of n s = ran score.scoring score.stands table.ops policy.ops n s

  abbrev pub done_of : ℕ → Search S score.Score table.Model policy.Model → ℕ
  done_of n s = done score.scoring score.stands table.ops policy.ops n s

  abbrev pub entries_of : ℕ → Search S score.Score table.Model policy.Model → ℕ
  entries_of n s = entries score.scoring score.stands table.ops policy.ops n s

  -- with the positions that the n steps enter
  abbrev pub RunKeepsOf : ℕ → Search S score.Score table.Model policy.Model → Search S score.Score table.Model policy.Model → Type 0
  RunKeepsOf n s z = RunKeeps score.scoring score.stands table.ops n (entries_of n s) s z

  abbrev pub PromiseOf : Type 0
  PromiseOf = Promise score.scoring score.stands table.ops policy.ops
