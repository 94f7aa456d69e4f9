-- The numbers of seats.
use Rattle.std.specs.Prelude.{ℕ}
use Rattle.lines.specs.declared.deal.Seat.{Seat}
use Rattle.lines.specs.declared.deal.Seat.TheVariants.{North, East, South, West}

abbrev pub seat_number : Seat → ℕ
seat_number North = 0
seat_number East = 1
seat_number South = 2
seat_number West = 3
