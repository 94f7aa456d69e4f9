-- A ticket and a stack that are those of an analyst's open search.
use Rattle.std.specs.Prelude.{ℕ, Bool, false, Some, None, Option}
use Rattle.analyst.specs.declared.analyst.Open.{Open}
use Rattle.analyst.specs.Calls.{State, Stack, matches}

abbrev pub matched : {C : Type 0} → Option (Open C) → ℕ → Stack C → Bool
matched None j k = false
matched (Some s) j k = matches s j k

-- the ticket j and the stack k are those of the open search of a
abbrev pub owned : {S C M P : Type 0} → State S C M P → ℕ → Stack C → Bool
owned a j k = matched a.search j k
