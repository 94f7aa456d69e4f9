use Rattle.std.specs.Option.{option_map}
use Rattle.std.proofs.Common.{◌≡◌, ◌-◌, [], map, length, take}
use Rattle.cards.specs.Numbers.{bits_of}
use Rattle.lines.specs.Counts.{listed}
use Rattle.lines.specs.Fields.{here}
use Rattle.lines.specs.Problems.{defence}
use Rattle.lines.specs.Reading.{first_cards, layouts_at}
use Rattle.lines.proofs.reader.layouts.Given as goal

-- reading on from here gives what reading all gives
abbrev pub invariant-loop-place : goal.invariant-loop-place
invariant-loop-place l =
    record {
      places : length l.place-items ≡ listed l.fn.count;
      last : l.place-index-end ≡ listed l.fn.count;
      known : option_map bits_of l.first ≡ first_cards (map defence (take l.place-index l.place-items));
      goes : layouts_at (listed l.fn.count - l.place-index) (bits_of l.hand0) (bits_of l.hand2) (map defence (take l.place-index l.place-items)) (here l.fields)
          ≡ layouts_at (listed l.fn.count) (bits_of l.fn.hand0) (bits_of l.fn.hand2) [] (here l.fn.fields);
    }
