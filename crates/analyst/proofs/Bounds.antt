-- A run and an end that answer as their definitions say are right, at an analyst as the program holds it.
use Rattle.std.proofs.Common.{◌≡◌, ℕ, Ok, Result, sym, ap, ◌∙◌}
use Rattle.lattice.specs.declared.Lattice.{Ghosts as Scores}
use Rattle.games.specs.declared.Game.{Ghosts as Games}
use Rattle.games.specs.Trees.{Lawful}
use Rattle.tables.specs.declared.Table.{Ghosts as Tables}
use Rattle.policies.specs.declared.Policy.{Ghosts as Policies}
use Rattle.search.specs.declared.stack.SearchStack.{SearchStack}
use Rattle.analyst.specs.declared.analyst.Analyst.{Analyst}
use Rattle.analyst.specs.declared.ended.Ended.{Ended}
use Rattle.analyst.specs.declared.ended.Ran.{Ran}
use Rattle.analyst.specs.declared.refusal.Refusal.{Refusal}
use Rattle.analyst.specs.Calls.{answered}
use Rattle.analyst.specs.Model.{state_of, stack_of, end_told}
use Rattle.analyst.specs.Bounds.{run_of, end_of, RunsRightOf, EndsRightOf}
use Rattle.analyst.proofs.Results.{same_ok}
use Rattle.analyst.proofs.Sequences.{runs_right, ends_right}

module _ {G T Q S : Type 0} {game : Games G S} {score : Scores S} {table : Tables T} {policy : Policies Q}
    (a : Analyst G T Q S game score table policy) (lawful : (g : G) → Lawful (game.line g)) where
  pub run_right : (j : ℕ) (k : SearchStack S score) (n : ℕ) (r : Result Ran Refusal)
      → r ≡ answered (λ y. y.answer) (run_of a j k n) → RunsRightOf a j k n r
  run_right j k n r e =
      runs_right game.line score.scoring score.stands table.ops policy.ops score.laws lawful table.laws policy.laws (state_of a) j (stack_of k) n r e

  pub end_right : {E : Type 0} (j : ℕ) (k : SearchStack S score) (r : Result (Ended S) Refusal) (y : Ended S) → r ≡ Ok y
      → end_told score.stands r ≡ answered (λ z. z.answer) (end_of a j k) → EndsRightOf a {E = E} k (Ok y)
  end_right j k r y is e x h at own z f =
      ends_right game.line score.scoring score.stands table.ops policy.ops score.laws lawful table.laws policy.laws (state_of a) j (stack_of k)
      _ (sym (ap (end_told score.stands) is) ∙ e) x h at own z (ap Ok (same_ok f))
