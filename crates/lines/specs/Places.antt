-- Where a fault is: at the byte where its field begins.
use Rattle.std.specs.Prelude.{◌≡◌, ℕ, zero, suc, ◌+◌, ◌≤◌, List, [], ◌∷◌, length, Ok, Err, Result}
use Rattle.lines.specs.declared.fault.Fault.{Fault}
use Rattle.lines.specs.Deals.{Deal}
use Rattle.lines.specs.Fields.{split}

-- the byte, from 1, where a field begins that has some fields before it, each with its comma
abbrev pub begins_after : List (List ℕ) → ℕ → ℕ
begins_after fields zero = 1
begins_after [] (suc n) = 1
begins_after (p ∷ ps) (suc n) = length p + 1 + begins_after ps n

-- a fault names a field of the line, or the one after the last, and the byte where it begins, or would begin after a further comma
pub record AtField (line : List ℕ) (f : Fault) : Type 0 where
  pub before : ℕ
  pub within : before ≤ length (split line)
  pub field : f.place.field ≡ before + 1
  pub byte : f.place.byte ≡ begins_after (split line) before

abbrev pub Placed : List ℕ → Result Deal Fault → Type 0
Placed line (Ok d) = Unit {0}
Placed line (Err f) = AtField line f
