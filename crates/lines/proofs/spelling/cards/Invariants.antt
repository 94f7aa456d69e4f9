use Rattle.std.proofs.Common.{◌≡◌, ◌^◌, ◌<◌, length}
use Rattle.lines.specs.Spelling.{cards_from, cards_of}
use Rattle.lines.proofs.Spelled.{low_after}
use Rattle.lines.proofs.spelling.cards.Given as goal

-- what is read so far are cards, and reading on from here gives what reading all gives
abbrev pub invariant-loop-rest : goal.invariant-loop-rest
invariant-loop-rest l = (l.cards.0 < 2 ^ 52) × (cards_from (low_after l.last) l.cards.0 l.rest ≡ cards_of l.text)

abbrev pub decreases-loop-rest : goal.decreases-loop-rest
decreases-loop-rest l = length l.rest
