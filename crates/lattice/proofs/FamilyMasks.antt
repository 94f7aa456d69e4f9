-- The test for a family as the code computes it.
use Rattle.std.proofs.Common.{◌≡◌, ℕ, zero, suc, ◌+◌, ◌*◌, ◌/◌, ◌%◌, List, [], ◌∷◌, get_or, ◌-◌, ◌^◌, ◌<◌, true, not, eqb, ◌↔◌, sym, ap, ◌∙◌, subst, arith, lit<}
use Rattle.std.specs.Prelude.{bit_and, bit_or}
use Rattle.std.proofs.lemmas.Bool.{both_ways, not-false, eqb-true, eq-eqb}
use Rattle.std.proofs.lemmas.Nat.{and_mask, and_le_l, or_lt, shr_le}
use Rattle.bitsets.specs.Sets.{has, Part}
use Rattle.bitsets.proofs.Digits.{has_first, has_below, has_without, apart, apart_out}
use Rattle.bitsets.specs.Families.{IsFamily, sets_with, without, without_one}
use Rattle.bitsets.proofs.FamilyTest.{family_by_parts, parts_by_family}

-- the test for the empty set
pub empty_test : (n : ℕ) → eqb (bit_and n 1) 1 ≡ has n 0
empty_test n = ap (λ (x : ℕ). eqb x 1) (and_mask n 1) ∙ sym (has_first n)

-- what is found has 64 bits
less_small : (n : ℕ) → n < 2 ^ 64 → (k : ℕ) → without_one n k < 2 ^ 64
less_small n l zero = lit< tt
less_small n l (suc k) =
    or_lt 64 (without_one n k) (without n k) (less_small n l k)
    (let a = and_le_l n (sets_with k) in let b = shr_le (bit_and n (sets_with k)) (2 ^ k) in omega arith)

-- no set is left over: each that is found is in the number
pub left_over : (u n : ℕ) → n < 2 ^ 64 → u < 2 ^ 64 → (eqb (bit_and u (2 ^ 64 - 1 - n)) 0 ≡ true) ↔ Part u n
left_over u n small low = (right, left)
  where
    right : eqb (bit_and u (2 ^ 64 - 1 - n)) 0 ≡ true → Part u n
    right e c h =
        not-false (has n c) (sym (has_without 64 n c small (has_below 64 u c low h))
        ∙ apart_out u (2 ^ 64 - 1 - n) c (eqb-true (bit_and u (2 ^ 64 - 1 - n)) 0 e) h)

    left : Part u n → eqb (bit_and u (2 ^ 64 - 1 - n)) 0 ≡ true
    left p =
        eq-eqb (bit_and u (2 ^ 64 - 1 - n)) 0 (apart u (2 ^ 64 - 1 - n) (λ c h m.
        both_ways (not (has n c)) (ap not (p c h)) (sym (has_without 64 n c small (has_below 64 u c low h)) ∙ m)))

-- the test for a family, where u is what is found
pub masks_test : (n : ℕ) → n < 2 ^ 64 → bit_and n 1 ≡ 1 → (u : ℕ) → u ≡ without_one n 6 → (eqb (bit_and u (2 ^ 64 - 1 - n)) 0 ≡ true) ↔ IsFamily n
masks_test n small e u is =
    let low : u < 2 ^ 64 = subst (λ (x : ℕ). x < 2 ^ 64) (sym is) (less_small n small 6) in (
      λ t. family_by_parts n small (sym (empty_test n) ∙ eq-eqb (bit_and n 1) 1 e) (subst (λ (x : ℕ). Part x n) is ((left_over u n small low).0 t)),
      λ f. (left_over u n small low).1 (subst (λ (x : ℕ). Part x n) (sym is) (parts_by_family n small f)),
    )

-- the masks as the code lists them, layout 1's first
abbrev pub masks : List ℕ
masks =
    0xaaaa_aaaa_aaaa_aaaa ∷ 0xcccc_cccc_cccc_cccc ∷ 0xf0f0_f0f0_f0f0_f0f0 ∷ 0xff00_ff00_ff00_ff00
    ∷ 0xffff_0000_ffff_0000 ∷ 0xffff_ffff_0000_0000 ∷ []

-- what is found with one layout more, where u is what is found so far
pub one_more_less : (n k u : ℕ) → k < 6 → u ≡ without_one n k
    → bit_or u (bit_and n (get_or masks k 0) / 2 ^ ((1 * 2 ^ k) % 2 ^ 8)) ≡ without_one n (k + 1)
one_more_less n zero u l e = ap (λ (x : ℕ). bit_or x (without n 0)) e
one_more_less n (suc zero) u l e = ap (λ (x : ℕ). bit_or x (without n 1)) e
one_more_less n (suc (suc zero)) u l e = ap (λ (x : ℕ). bit_or x (without n 2)) e
one_more_less n (suc (suc (suc zero))) u l e = ap (λ (x : ℕ). bit_or x (without n 3)) e
one_more_less n (suc (suc (suc (suc zero)))) u l e = ap (λ (x : ℕ). bit_or x (without n 4)) e
one_more_less n (suc (suc (suc (suc (suc zero))))) u l e = ap (λ (x : ℕ). bit_or x (without n 5)) e
one_more_less n (suc (suc (suc (suc (suc (suc k)))))) u l e = absurd (omega arith)
