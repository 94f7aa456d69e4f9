-- What the operations on families give is a family again.
use Rattle.std.proofs.Common.{◌≡◌, ℕ, ◌-◌, ◌^◌, true, ◌⊎◌, sym, ◌∙◌, subst, inl, inr, arith, lit<, bit_and, bit_or}
use Rattle.std.proofs.lemmas.Bool.{both_ways, eqb-true, eq-eqb}
use Rattle.std.proofs.lemmas.Nat.{and_le_l, or_lt}
use Rattle.bitsets.specs.Sets.{has, Part}
use Rattle.bitsets.proofs.Digits.{has_zero, has_pow, pow_has, part_le, part_of_zero, has_all, all_has, and_has, and_has_l, and_has_r, or_has, or_has_l, or_has_r, below_pow}
use Rattle.bitsets.specs.Families.{IsFamily, parts_below}
use Rattle.bitsets.proofs.FamilyParts.{parts_of_below}

-- just the empty set
pub bottom_is : IsFamily 1
bottom_is = record { small = lit< tt; empty = pow_has 0; closed = lone }
  where
    lone : (s t : ℕ) → Part s t → has 1 t ≡ true → has 1 s ≡ true
    lone s t p h =
        let z : t ≡ 0 = eqb-true t 0 (sym (has_pow 0 t) ∙ h) in
        let e : s ≡ 0 = part_of_zero s (subst (λ (x : ℕ). Part s x) z p) in
        has_pow 0 s ∙ eq-eqb s 0 e

-- all sets
pub top_is : IsFamily (2 ^ 64 - 1)
top_is = record { small = lit< tt; empty = has_all 64 0 (lit< tt); closed = whole }
  where
    whole : (s t : ℕ) → Part s t → has (2 ^ 64 - 1) t ≡ true → has (2 ^ 64 - 1) s ≡ true
    whole s t p h = let l = part_le s t p in let m = all_has 64 t h in has_all 64 s (omega arith)

-- the sets of either
pub join_is : (a b : ℕ) → IsFamily a → IsFamily b → IsFamily (bit_or a b)
join_is a b f g =
    record {
      small = or_lt 64 a b f.small g.small;
      empty = or_has_l a b 0 f.empty;
      closed = λ s t p h. by s t p (or_has a b t h);
    }
  where
    by : (s t : ℕ) → Part s t → (has a t ≡ true) ⊎ (has b t ≡ true) → has (bit_or a b) s ≡ true
    by s t p (inl h) = or_has_l a b s (f.closed s t p h)
    by s t p (inr h) = or_has_r a b s (g.closed s t p h)

-- the sets of both
pub meet_is : (a b : ℕ) → IsFamily a → IsFamily b → IsFamily (bit_and a b)
meet_is a b f g =
    record {
      small = let l = and_le_l a b in let m = f.small in omega arith;
      empty = and_has a b 0 f.empty g.empty;
      closed = λ s t p h. and_has a b s (f.closed s t p (and_has_l a b t h)) (g.closed s t p (and_has_r a b t h));
    }

-- the parts of a set
pub parts_is : (x : ℕ) → IsFamily (parts_below x 6)
parts_is x =
    let is = parts_of_below x 6 in
    record {
      small = below_pow 64 (parts_below x 6) (λ t h. (is.only t h).1);
      empty = is.all 0 (λ c h. absurd (both_ways (has 0 c) (has_zero c) h)) (lit< tt);
      closed = λ s t p h.
          let q = is.only t h in let l = part_le s t p in let m = q.1 in
          is.all s (λ c e. q.0 c (p c e)) (omega arith);
    }
