-- Whether a number is a family, decided by six masks.
use Rattle.std.proofs.Common.{◌≡◌, ℕ, zero, suc, ◌+◌, ◌-◌, ◌^◌, ◌<◌, Bool, true, false, ◌&&◌, eqb, ltb, ◌⊎◌, sym, refl, ap, ◌∙◌, subst, inl, inr, arith, lit<, bit_and}
use mathlib.Core.Bool.{beq}
use lib.Count.{ones}
use Rattle.std.proofs.lemmas.Bool.{both_ways, cases_eq, and_parts, and_from, eqb-true, eq-eqb, ltb-true, lt-ltb}
use Rattle.bitsets.specs.Sets.{has, Part}
use Rattle.bitsets.proofs.Digits.{lacks, ones_pos, ones_sub, sub_keeps, has_zero, has_below, has_le, has_shr, sub_part, and_has, and_has_l, and_has_r, and_part, part_and, or_has, or_has_l, or_has_r}
use Rattle.bitsets.specs.Families.{IsFamily, sets_with, without, without_one, family_test}

-- ---- parts, one member at a time

-- a number has all parts of its sets if it has each of them with one member taken out
closed_by_one : (k n : ℕ) → ((t : ℕ) → has n t ≡ true → t < 2 ^ k) → ((t i : ℕ) → has n t ≡ true → has t i ≡ true → has n (t - 2 ^ i) ≡ true)
    → (m s t : ℕ) → ones t ≡ m → Part s t → has n t ≡ true → has n s ≡ true
closed_by_one k n small step zero s t e p h = by (cases_eq s t)
  where
    by : (s ≡ t) ⊎ (s ≡ t → ⊥) → has n s ≡ true
    by (inl q) = subst (λ (x : ℕ). has n x ≡ true) (sym q) h
    by (inr q) = let w = lacks k s t (small t h) p q in let o = ones_pos t w.0 w.1 in absurd (omega arith)
closed_by_one k n small step (suc m) s t e p h =
    by (λ i a b. closed_by_one k n small step m s (t - 2 ^ i) (let o = ones_sub t i a in omega arith)
    (λ c x. sub_keeps t i c a (λ q. both_ways (has s i) b (subst (λ (y : ℕ). has s y ≡ true) q x)) (p c x)) (step t i h a))
    (cases_eq s t)
  where
    by : ((i : ℕ) → has t i ≡ true → has s i ≡ false → has n s ≡ true) → (s ≡ t) ⊎ (s ≡ t → ⊥) → has n s ≡ true
    by ih (inl q) = subst (λ (x : ℕ). has n x ≡ true) (sym q) h
    by ih (inr q) = let w = lacks k s t (small t h) p q in ih w.0 w.1 w.2

-- ---- the masks

-- a fact of each number below k, computed
abbrev every : (ℕ → Bool) → ℕ → Bool
every f zero = true
every f (suc k) = f k && every f k

every_at : (f : ℕ → Bool) (k j : ℕ) → every f k ≡ true → j < k → f j ≡ true
every_at f zero j h l = absurd (omega arith)
every_at f (suc k) j h l = by (every_at f k j (and_parts (f k) (every f k) h).1) (cases_eq j k)
  where
    by : (j < k → f j ≡ true) → (j ≡ k) ⊎ (j ≡ k → ⊥) → f j ≡ true
    by ih (inl e) = subst (λ (x : ℕ). f x ≡ true) (sym e) (and_parts (f k) (every f k) h).0
    by ih (inr n) = ih (omega arith)

beq_same : (x y : Bool) → beq x y ≡ true → x ≡ y
beq_same true true e = refl
beq_same true false e = sym e
beq_same false true e = e
beq_same false false e = refl

with_each : (i : ℕ) → i < 6 → every (λ t. beq (has (sets_with i) t) (has t i)) 64 ≡ true
unfolding has
with_each zero l = refl
with_each (suc zero) l = refl
with_each (suc (suc zero)) l = refl
with_each (suc (suc (suc zero))) l = refl
with_each (suc (suc (suc (suc zero)))) l = refl
with_each (suc (suc (suc (suc (suc zero))))) l = refl
with_each (suc (suc (suc (suc (suc (suc i)))))) l = absurd (omega arith)

-- each mask has the sets that it should
has_with : (i t : ℕ) → i < 6 → t < 64 → has (sets_with i) t ≡ has t i
has_with i t l m =
    beq_same (has (sets_with i) t) (has t i) (every_at (λ t. beq (has (sets_with i) t) (has t i)) 64 t (with_each i l) m)

-- ---- the sets with a layout taken out

module _ (n : ℕ) (small : n < 2 ^ 64) where
  -- a set without one of its layouts is found
  less_has : (k i t : ℕ) → k < 7 → i < k → has n t ≡ true → has t i ≡ true → has (without_one n k) (t - 2 ^ i) ≡ true
  less_has zero i t m l h a = absurd (omega arith)
  less_has (suc k) i t m l h a = by (λ q. less_has k i t (omega arith) q h a) (cases_eq i k)
    where
      e : 2 ^ i + (t - 2 ^ i) ≡ t
      e = let b = has_le t i a in omega arith

      here : i ≡ k → has (without n i) (t - 2 ^ i) ≡ true
      here q =
          has_shr (bit_and n (sets_with i)) (2 ^ i) (t - 2 ^ i) ∙ ap (λ (x : ℕ). has (bit_and n (sets_with i)) x) e
          ∙ and_has n (sets_with i) t h (has_with i t (omega arith) (has_below 64 n t small h) ∙ a)

      by : (i < k → has (without_one n k) (t - 2 ^ i) ≡ true) → (i ≡ k) ⊎ (i ≡ k → ⊥) → has (without_one n (suc k)) (t - 2 ^ i) ≡ true
      by ih (inl q) = or_has_r (without_one n k) (without n k) (t - 2 ^ i) (subst (λ (x : ℕ). has (without n x) (t - 2 ^ i) ≡ true) q (here q))
      by ih (inr q) = or_has_l (without_one n k) (without n k) (t - 2 ^ i) (ih (omega arith))

  -- and nothing else is, so a family has all that is found
  less_part : IsFamily n → (k : ℕ) → k < 7 → Part (without_one n k) n
  less_part f zero m s h = absurd (both_ways (has 0 s) (has_zero s) h)
  less_part f (suc k) m s h = by (less_part f k (omega arith) s) (or_has (without_one n k) (without n k) s h)
    where
      lost : has (without n k) s ≡ true → has n s ≡ true
      lost a =
          let b = sym (has_shr (bit_and n (sets_with k)) (2 ^ k) s) ∙ a in
          let ht = and_has_l n (sets_with k) (2 ^ k + s) b in
          let hk = sym (has_with k (2 ^ k + s) (omega arith) (has_below 64 n (2 ^ k + s) small ht)) ∙ and_has_r n (sets_with k) (2 ^ k + s) b in
          let e : 2 ^ k + s - 2 ^ k ≡ s = omega arith in
          f.closed s (2 ^ k + s) (subst (λ (x : ℕ). Part x (2 ^ k + s)) e (sub_part (2 ^ k + s) k hk)) ht

      by : (has (without_one n k) s ≡ true → has n s ≡ true) → (has (without_one n k) s ≡ true) ⊎ (has (without n k) s ≡ true) → has n s ≡ true
      by ih (inl a) = ih a
      by ih (inr a) = lost a

  -- a number is a family exactly if it has the empty set and all that is found
  pub family_by_parts : has n 0 ≡ true → Part (without_one n 6) n → IsFamily n
  family_by_parts e p =
      record {
        small = small;
        empty = e;
        closed = λ s t q h.
            closed_by_one 6 n (λ t h. has_below 64 n t small h)
            (λ t i h a. p (t - 2 ^ i) (less_has 6 i t (lit< tt) (has_below 6 t i (has_below 64 n t small h) a) h a)) (ones t) s t refl q h;
      }

  pub parts_by_family : IsFamily n → Part (without_one n 6) n
  parts_by_family f = less_part f 6 (lit< tt)

-- ---- the test

pub test_family : (n : ℕ) → family_test n ≡ true → IsFamily n
test_family n e =
    let (a, b) = and_parts (ltb n (2 ^ 64)) (has n 0 && eqb (bit_and (without_one n 6) n) (without_one n 6)) e in
    let (c, d) = and_parts (has n 0) (eqb (bit_and (without_one n 6) n) (without_one n 6)) b in
    family_by_parts n (ltb-true n (2 ^ 64) a) c (and_part (without_one n 6) n (eqb-true (bit_and (without_one n 6) n) (without_one n 6) d))

pub family_tests : (n : ℕ) → IsFamily n → family_test n ≡ true
family_tests n f =
    and_from (ltb n (2 ^ 64)) (has n 0 && eqb (bit_and (without_one n 6) n) (without_one n 6)) (lt-ltb n (2 ^ 64) f.small)
    (and_from (has n 0) (eqb (bit_and (without_one n 6) n) (without_one n 6)) f.empty
    (eq-eqb (bit_and (without_one n 6) n) (without_one n 6) (part_and (without_one n 6) n (parts_by_family n f.small f))))

unfoldable pub family_by : (n : ℕ) (b : Bool) → family_test n ≡ b → IsFamily n ⊎ (IsFamily n → ⊥)
family_by n true e = inl (test_family n e)
family_by n false e = inr (λ f. both_ways (family_test n) e (family_tests n f))

-- each number is a family or is not
unfoldable pub family_or_not : (n : ℕ) → IsFamily n ⊎ (IsFamily n → ⊥)
family_or_not n = family_by n (family_test n) refl
