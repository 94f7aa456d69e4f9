-- The deal that a problem tells, in the words of card play.
use Rattle.std.specs.Prelude.{map}
use Rattle.lines.specs.Deals.{Defence, Deal}
use Rattle.cardplay.specs.Cards.{Layout, Dealt}

-- a layout's four hands: those of seats 1 and 3 beside the two that all layouts share
abbrev pub four_hands : Deal → Defence → Layout
four_hands d l = record { zeroth = d.hand0; first = l.hand1; second = d.hand2; third = l.hand3 }

-- trump and leader as they are, and the four hands of each layout
abbrev pub dealt : Deal → Dealt
dealt d = record { trump = d.trump; layouts = map (four_hands d) d.layouts; leader = d.leader }
