use Rattle.std.proofs.Common.{rules}
use Rattle.cards.proofs.set.CardSet.nth.Goals as goal

pub overflow_cast-code : goal.overflow_cast-code
overflow_cast-code c = let h = c.in_ok-code.ensures 52 (search rules) in search rules
