-- The example game: Max takes three, or leaves it to Min to give five or two.
use Rattle.std.specs.Prelude.{ℕ, [], ◌∷◌}
use Rattle.lattice.specs.declared.tricks.Tricks.{Tricks}
use Rattle.games.specs.declared.key.Key.{Key}
use Rattle.games.specs.declared.side.Side.TheVariants.{Max, Min}
use Rattle.games.specs.declared.example.Example.{Example}
use Rattle.games.specs.declared.example.Example.TheVariants.{Start, Three, Left, Five, Two}
use Rattle.games.specs.Trees.{Tree, over, turn, none, also, Line}

-- each state's position has a key of its own
abbrev pub key_at : Example → Key
key_at Start = record { first = 0; second = 0 }
key_at Three = record { first = 1; second = 0 }
key_at Left = record { first = 2; second = 0 }
key_at Five = record { first = 3; second = 0 }
key_at Two = record { first = 4; second = 0 }

-- the positions: one that is over with n tricks, the one that is left to Min, and the first
abbrev pub ended : Example → ℕ → Tree Tricks
ended e n = over (key_at e) 0 (record { 0 = n })

abbrev pub left_to_min : Tree Tricks
left_to_min = turn (key_at Left) 1 Min (also (ended Five 5) (also (ended Two 2) none))

abbrev pub start : Tree Tricks
start = turn (key_at Start) 2 Max (also (ended Three 3) (also left_to_min none))

-- where the game stands in each state
abbrev pub line_at : Example → Line Tricks
line_at Start = record { present = start; earlier = [] }
line_at Three = record { present = ended Three 3; earlier = start ∷ [] }
line_at Left = record { present = left_to_min; earlier = start ∷ [] }
line_at Five = record { present = ended Five 5; earlier = left_to_min ∷ start ∷ [] }
line_at Two = record { present = ended Two 2; earlier = left_to_min ∷ start ∷ [] }
