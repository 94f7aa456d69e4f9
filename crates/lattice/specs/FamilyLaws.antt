-- Families keep the laws of scores.
use Rattle.std.specs.Prelude.{◌≡◌, ℕ, true, ◌⊎◌, Some, Option, bit_or, refl}
use Rattle.std.proofs.Common.{sym, ap, ◌∙◌, subst, inl, inr}
use mathlib.Core.HLevel.{Π_prop, →_prop, is_prop→PathP}
use Rattle.std.proofs.Math.Bool.{Bool-set}
use Rattle.std.proofs.Math.Bridge.{le_prop}
use Rattle.std.proofs.lemmas.Nat.{and_comm, or_comm}
use Rattle.std.proofs.lemmas.Bool.{eqb-true, eq-eqb}
use Rattle.std.proofs.lemmas.Option.{none-some}
use Rattle.bitsets.specs.Sets.{has, Part}
use Rattle.bitsets.proofs.Digits.{has_pow, part_both, or_has, or_has_r, and_assoc, or_assoc, or_absorbs, and_absorbs, and_or_distributes, and_all}
use Rattle.lattice.specs.Scores.{Laws}
use Rattle.bitsets.specs.Families.{IsFamily}
use Rattle.bitsets.proofs.FamilyTest.{family_or_not}
use Rattle.lattice.specs.FamilyScores.{FamilyScore, told_family, family_scoring}

family_prop : (n : ℕ) → IsProp (IsFamily n)
family_prop n x y =
    λ i. record {
      small = le_prop x.small y.small i;
      empty = Bool-set (has n 0) true x.empty y.empty i;
      closed = Π_prop {B = λ s. (t : ℕ) → Part s t → has n t ≡ true → has n s ≡ true}
          (λ s. Π_prop {B = λ t. Part s t → has n t ≡ true → has n s ≡ true} (λ t. →_prop (→_prop (Bool-set (has n s) true)))) x.closed y.closed i;
    }

-- scores with one number are equal
pub family_path : {a b : FamilyScore} → a.number ≡ b.number → a ≡ b
family_path {a} {b} e =
    λ i. record { number = e i; is = is_prop→PathP (λ i. IsFamily (e i)) (λ i. family_prop (e i)) a.is b.is i }

told_some : (n : ℕ) (c : IsFamily n ⊎ (IsFamily n → ⊥)) (a : FamilyScore) → a.number ≡ n → told_family n c ≡ Some a
told_some n (inl is) a q = ap {B = Option FamilyScore} Some (family_path {a = record { number = n; is = is }} (sym q))
told_some n (inr none) a q = absurd (none (subst IsFamily q a.is))

some_told : (n : ℕ) (c : IsFamily n ⊎ (IsFamily n → ⊥)) (a : FamilyScore) → told_family n c ≡ Some a → a.number ≡ n
some_told n (inl is) a q =
    let r : record { number = n; is = is } ≡ a = cc in sym (ap (λ (x : FamilyScore). x.number) r)
some_told n (inr none) a q = absurd (none-some a q)

one_below : (a : FamilyScore) → bit_or 1 a.number ≡ a.number
one_below a =
    part_both (bit_or 1 a.number) a.number (λ c h. by c (or_has 1 a.number c h)) (λ c h. or_has_r 1 a.number c h)
  where
    by : (c : ℕ) → (has 1 c ≡ true) ⊎ (has a.number c ≡ true) → has a.number c ≡ true
    by c (inl h) = subst (λ (x : ℕ). has a.number x ≡ true) (sym (eqb-true c 0 (sym (has_pow 0 c) ∙ h))) a.is.empty
    by c (inr h) = h

pub family_laws : Laws family_scoring
family_laws = record {
  join_commutes = λ a b. family_path (or_comm a.number b.number);
  join_associates = λ a b c. family_path (or_assoc a.number b.number c.number);
  meet_commutes = λ a b. family_path (and_comm a.number b.number);
  meet_associates = λ a b c. family_path (and_assoc a.number b.number c.number);
  join_absorbs = λ a b. family_path (or_absorbs a.number b.number);
  meet_absorbs = λ a b. family_path (and_absorbs a.number b.number);
  distributes = λ a b c. family_path (and_or_distributes a.number b.number c.number);
  bottom_neutral = λ a. family_path (one_below a);
  top_neutral = λ a. family_path (and_all 64 a.number a.is.small);
  orders = λ a b. (
    λ h. family_path (eqb-true (bit_or a.number b.number) b.number h),
    λ h. eq-eqb (bit_or a.number b.number) b.number (ap (λ (x : FamilyScore). x.number) h),
  );
  fits = λ a. a.is.small;
  reads = λ a. told_some a.number (family_or_not a.number) a refl;
  exact = λ n a h. some_told n (family_or_not n) a h;
}
