use Rattle.std.proofs.Common.{rules}
use Rattle.cards.proofs.set.CardSet.with.Goals as goal

pub invariant_of-result : goal.invariant_of-result
invariant_of-result c = record { cards = search (rules, c.with.ensures.bound 52) }

pub returns-clause-bound : goal.returns-clause-bound
returns-clause-bound c = search (rules, c.with.ensures.bound 52)
