use Rattle.std.proofs.Common.{◌≡◌, ◌+◌, ◌^◌, ◌<◌, drop}
use Rattle.cards.specs.Codes.{card_code}
use Rattle.cardplay.specs.Cards.{still, live_after}
use Rattle.deals.specs.Dealing.{dealt_of}
use Rattle.deals.specs.States.{play_of}
use Rattle.deals.proofs.state.State.live_after.Given as goal

-- with the layouts from here on that stay live they are all, and so far there are only earlier ones
abbrev pub invariant-loop-place : goal.invariant-loop-place
invariant-loop-place l =
    (l.live.0
    + still (dealt_of l.problem) (play_of l.self) (drop l.place (dealt_of l.problem).layouts) l.place (card_code l.card)
    ≡ live_after (dealt_of l.problem) (play_of l.self) (card_code l.card))
    × (l.live.0 < 2 ^ l.place)
