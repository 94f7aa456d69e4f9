-- The scores of the plan game: families, with bitwise or as join and bitwise and as meet.
use Rattle.std.specs.Prelude.{◌≡◌, ℕ, ◌-◌, ◌^◌, ◌<◌, ◌≤◌, true, cond, ◌⊎◌, ◌↔◌, Some, None, Option, ◌==◌, bit_and, bit_or, nat_lt}
use Rattle.std.proofs.Common.{inl, inr}
use Rattle.bitsets.specs.Sets.{has, Part}
use Rattle.lattice.specs.declared.family.Family.{Family}
use Rattle.lattice.specs.Scores.{Scoring, meant}
use Rattle.bitsets.specs.Families.{IsFamily, parts_below}
use Rattle.bitsets.proofs.FamilyTest.{family_or_not}
use Rattle.bitsets.proofs.FamilyClosure.{bottom_is, top_is, join_is, meet_is, parts_is}

-- a family as a number
pub record FamilyScore : Type 0 where
  pub number : ℕ
  pub is : IsFamily number

-- n as a score, told whether it is a family
abbrev pub told_family : (n : ℕ) → IsFamily n ⊎ (IsFamily n → ⊥) → Option FamilyScore
told_family n (inl is) = Some (record { number = n; is = is })
told_family n (inr none) = None

-- the operations on families
abbrev pub family_scoring : Scoring FamilyScore
family_scoring = record {
  join = λ a b. record { number = bit_or a.number b.number; is = join_is a.number b.number a.is b.is };
  meet = λ a b. record { number = bit_and a.number b.number; is = meet_is a.number b.number a.is b.is };
  bottom = record { number = 1; is = bottom_is };
  top = record { number = 2 ^ 64 - 1; is = top_is };
  below = λ a b. (bit_or a.number b.number == b.number);
  code = λ a. a.number;
  decode = λ n. told_family n (family_or_not n);
}

-- the family of all parts of the set x of layouts
abbrev pub parts_of : ℕ → FamilyScore
parts_of x = record { number = parts_below x 6; is = parts_is x }

-- the score that a value stands for
abbrev pub family_of : Family → FamilyScore
family_of f = meant family_scoring f.0

-- the family of all parts of x as an answer: none if x is no set of six layouts
abbrev pub subsets_of : ℕ → Option FamilyScore
subsets_of x = cond (nat_lt x 64) (Some (parts_of x)) None

-- the same in words: it has exactly the parts of x
abbrev pub AllParts : ℕ → Option Family → Type 0
AllParts x None = 64 ≤ x
AllParts x (Some f) = (x < 64) × ((t : ℕ) → (has (family_of f).number t ≡ true) ↔ Part t x)
