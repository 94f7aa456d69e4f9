-- The states of play, as card play has them.
use Rattle.std.specs.Prelude.{ℕ, cond, List, map, reverse, take}
use Rattle.bitsets.specs.Sets.{has}
use Rattle.cards.specs.Numbers.{bits_of}
use Rattle.lines.specs.Seats.{seat_number}
use Rattle.cardplay.specs.Cards.{Dealt, Play, held, may_play}
use Rattle.cardplay.specs.Deals.{layout}
use Rattle.deals.specs.declared.state.State.{State}
use Rattle.deals.specs.Tricks.{trick_codes}

abbrev pub play_of : State → Play
play_of s =
    record { unplayed = bits_of s.unplayed; leader = seat_number s.leader; trick = trick_codes s.trick; won = s.won; live = s.live.0 }

-- the first n of the past states, the latest first
abbrev pub earlier_plays : List State → ℕ → List Play
earlier_plays past n = reverse (map play_of (take n past))

-- the cards that are legal in layout i, as a set; none where it is not live
abbrev pub legal_there : Dealt → Play → ℕ → ℕ
legal_there d p i = cond (has p.live i) (may_play (held d p (layout d i)) p.trick) 0
