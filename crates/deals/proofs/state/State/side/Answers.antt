use Rattle.std.proofs.Common.{ℕ, ◌%◌, cond, eqb, Some, None, sym, ap, ◌∙◌, rules}
use Rattle.std.proofs.lemmas.Bool.{cond-false}
use Rattle.games.specs.declared.side.Side.TheVariants.{Max, Min}
use Rattle.deals.proofs.state.State.side.Goals as goal

pub returns : goal.returns
returns c d =
    ap Some (c.side_of.ensures ∙ ap (λ (k : ℕ). cond (eqb (k % 2) 0) Max Min) (c.to_play.ensures d))
    ∙ sym (cond-false (eqb c.args.self.now.unplayed.bits 0) None _ (search rules))
