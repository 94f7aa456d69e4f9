use Rattle.std.proofs.Common.{◌≡◌, ◌^◌, ◌<◌, bit_or}
use Rattle.cardplay.specs.Cards.{legal_set}
use Rattle.deals.specs.Dealing.{dealt_of}
use Rattle.deals.specs.States.{play_of}
use Rattle.deals.proofs.Layouts.{hands_from_on}
use Rattle.deals.proofs.state.State.legal.Given as goal

-- with the legal cards of the layouts from here on they are all
abbrev pub invariant-loop-place : goal.invariant-loop-place
invariant-loop-place l =
    (bit_or l.cards.0 (hands_from_on l.problem l.self l.place) ≡ legal_set (dealt_of l.problem) (play_of l.self))
    × (l.cards.0 < 2 ^ 52)
