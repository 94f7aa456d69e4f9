-- The deal that a problem's fields tell.
use Rattle.std.specs.Prelude.{map, take}
use Rattle.std.specs.Option.{option_map}
use Rattle.cards.specs.Codes.{suit_code}
use Rattle.cards.specs.Numbers.{bits_of}
use Rattle.lines.specs.declared.deal.Goal.{Goal}
use Rattle.lines.specs.declared.deal.Goal.TheVariants.{Tricks, Plan}
use Rattle.lines.specs.declared.deal.Layout.{Layout}
use Rattle.lines.specs.declared.deal.Parts.{Parts}
use Rattle.lines.specs.Seats.{seat_number}
use Rattle.lines.specs.Deals.{Asked, tricks, plan, Defence, Deal}

abbrev pub asked_by : Goal → Asked
asked_by Tricks = tricks
asked_by (Plan t) = plan t.0

abbrev pub defence : Layout → Defence
defence l = record { hand1 = bits_of l.hand1; hand3 = bits_of l.hand3 }

-- the deal that the parts of a problem tell: the first `count` of the layouts are in use
abbrev pub deal : Parts → Deal
deal p =
    record {
      asked = asked_by p.goal;
      trump = option_map suit_code p.trump;
      leader = seat_number p.leader;
      hand0 = bits_of p.hand0;
      hand2 = bits_of p.hand2;
      layouts = map defence (take p.count p.layouts);
    }
