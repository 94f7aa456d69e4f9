-- The evaluation of a position: what playing every line of its tree finds.
use Rattle.std.specs.Prelude.{ℕ, ◌-◌, ◌^◌, min}
use Rattle.lattice.specs.Scores.{Scoring}
use Rattle.games.specs.declared.side.Side.{Side}
use Rattle.games.specs.declared.side.Side.TheVariants.{Max, Min}

-- n as far as 64 bits count: n, or the largest number that they hold if n is more
abbrev pub capped : ℕ → ℕ
capped n = min n (2 ^ 64 - 1)

module _ {C : Type 0} where
  -- what a turn of this side is worth before any child is taken in
  abbrev pub at_first : Scoring C → Side → C
  at_first o Max = o.bottom
  at_first o Min = o.top

  -- what this side makes of two values
  abbrev pub chosen : Scoring C → Side → C → C → C
  chosen o Max a b = o.join a b
  chosen o Min a b = o.meet a b
