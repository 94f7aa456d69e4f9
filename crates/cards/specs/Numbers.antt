-- Sets of cards as numbers.
use Rattle.std.specs.Prelude.{ℕ}
use Rattle.cards.specs.declared.set.CardSet.{CardSet}

-- a set of cards as a number: the sum of 2^c over the codes c of its cards
abbrev pub bits_of : CardSet → ℕ
bits_of s = s.bits
