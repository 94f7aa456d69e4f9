-- The fields of a line, and where a reader of them stands.
use Rattle.std.specs.Prelude.{◌≡◌, ℕ, zero, suc, ◌+◌, cond, List, [], ◌∷◌, length, IfSome, MatchOption, Option, ◌==◌}
use Rattle.lines.specs.declared.fields.Field.{Field}
use Rattle.lines.specs.declared.fields.Fields.{Fields}

-- a byte put before the first of some fields
abbrev pub onto : ℕ → List (List ℕ) → List (List ℕ)
onto b [] = (b ∷ []) ∷ []
onto b (p ∷ ps) = (b ∷ p) ∷ ps

-- the parts of a line between its commas (44): one more than it has commas
abbrev pub split : List ℕ → List (List ℕ)
split [] = [] ∷ []
split (b ∷ bs) = cond (b == 44) ([] ∷ split bs) (onto b (split bs))

-- the fields from a place on: none past the end
abbrev pub split_from : List ℕ → ℕ → List (List ℕ)
split_from line zero = split line
split_from [] (suc at) = []
split_from (b ∷ bs) (suc at) = split_from bs at

-- where a reader stands: the fields that are left, the number of the next one, and its first byte, both from 1
pub record Spot : Type 0 where
  pub rest : List (List ℕ)
  pub number : ℕ
  pub byte : ℕ

abbrev pub start : List ℕ → Spot
start line = record { rest = split line; number = 1; byte = 1 }

-- past the next field; after the last, nothing moves
abbrev pub past : List (List ℕ) → ℕ → ℕ → Spot
past [] n b = record { rest = []; number = n; byte = b }
past (p ∷ ps) n b = record { rest = ps; number = n + 1; byte = b + (length p + 1) }

abbrev pub next_spot : Spot → Spot
next_spot s = past s.rest s.number s.byte

-- where a cursor stands
abbrev pub here : Fields → Spot
here f = record { rest = split_from f.line.now f.at; number = f.number; byte = f.at + 1 }

-- the next field, or none after the last, and the cursor past it
pub record IsNext (old : Fields) (field : Option Field) (new : Fields) : Type 0 where
  pub text : MatchOption field ((here old).rest ≡ []) (λ f. (here old).rest ≡ f.text.now ∷ (here new).rest)
  pub place : IfSome field (λ f. (f.place.field ≡ (here old).number) × (f.place.byte ≡ (here old).byte))
  pub goes : here new ≡ next_spot (here old)
