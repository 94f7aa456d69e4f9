use Rattle.std.proofs.Common.{sym, ◌∙◌}
use Rattle.bitsets.proofs.Digits.{has_ext, has_sub}
use Rattle.cards.specs.Codes.{card_code}
use Rattle.deals.proofs.state.rules.removed.Goals as goal

pub returns : goal.returns
returns c = has_ext _ _ (λ k. c.without.ensures.members k ∙ sym (has_sub c.args.cards.bits (card_code c.args.card) k c.requires))
