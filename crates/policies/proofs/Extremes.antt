-- The lowest and the highest member of a set of places, by counts of zeros.
use Rattle.std.proofs.Common.{◌≡◌, ℕ, zero, suc, ◌-◌, ◌^◌, ◌<◌, ◌≤◌, Bool, true, false, ◌⊎◌, Some, None, sym, refl, ap, ◌∙◌, subst, inl, inr, arith}
use Rattle.std.specs.Int.Count.{count_leading_zeros, count_trailing_zeros}
use Rattle.std.proofs.lemmas.Nat.{leading_top}
use Rattle.std.proofs.lemmas.Option.{none-some}
use Rattle.std.proofs.lemmas.Bool.{both_ways, cases_eq, cases_Bool}
use Rattle.bitsets.specs.Sets.{has}
use Rattle.bitsets.proofs.Digits.{test_false, has_below, has_high, has_zero, below_pow, trailing_has, trailing_least}
use Rattle.policies.specs.Policies.{Chosen, lowest_with, highest_with, LowestOf, HighestOf}
use Rattle.policies.specs.Laws.{one_chosen}

-- none has f; or a number has f, and of the others no lower or no higher one has
module _ (f : ℕ → Bool) where
  low_none : (n : ℕ) → ((k : ℕ) → k < n → f k ≡ false) → lowest_with f n ≡ None
  low_none zero rest = refl
  low_none (suc n) rest =
      let ih = low_none n (λ k l. rest k (omega arith)) in let h = rest n (omega arith) in rw (ih, h)

  low_found : (n p : ℕ) → p < n → f p ≡ true → ((k : ℕ) → k < p → f k ≡ false) → lowest_with f n ≡ Some p
  low_found zero p l here rest = absurd (omega arith)
  low_found (suc n) p l here rest = by (λ m. low_found n p m here rest) (cases_eq p n)
    where
      by : (p < n → lowest_with f n ≡ Some p) → (p ≡ n) ⊎ (p ≡ n → ⊥) → lowest_with f (suc n) ≡ Some p
      by ih (inl e) = rw (sym e) (let a = low_none p rest in rw (a, here))
      by ih (inr ne) = let a = ih (omega arith) in rw a

  high_none : (n : ℕ) → ((k : ℕ) → f k ≡ false) → highest_with f n ≡ None
  high_none zero rest = refl
  high_none (suc n) rest = let ih = high_none n rest in let h = rest n in rw (h, ih)

  high_found : (n p : ℕ) → p < n → f p ≡ true → ((k : ℕ) → p < k → f k ≡ false) → highest_with f n ≡ Some p
  high_found zero p l here rest = absurd (omega arith)
  high_found (suc n) p l here rest = by (λ m. high_found n p m here rest) (cases_eq p n)
    where
      by : (p < n → highest_with f n ≡ Some p) → (p ≡ n) ⊎ (p ≡ n → ⊥) → highest_with f (suc n) ≡ Some p
      by ih (inl e) = rw (sym e) (rw here)
      by ih (inr ne) = let h = rest n (omega arith) in let a = ih (omega arith) in rw (h, a)

  none_chosen : ((k : ℕ) → f k ≡ false) → Chosen f None
  none_chosen rest = record { some = λ p e. absurd (none-some p e); none = λ e. rest }

-- the digit at the top
top_has : (x j : ℕ) → 2 ^ j ≤ x → x < 2 ^ suc j → has x j ≡ true
top_has x j l h = by (cases_Bool (has x j))
  where
    lower : has x j ≡ false → (c : ℕ) → has x c ≡ true → (c ≡ j) ⊎ (c ≡ j → ⊥) → c < j
    lower e c d (inl q) = absurd (both_ways (has x j) e (ap (has x) (sym q) ∙ d))
    lower e c d (inr n) = let b = has_below (suc j) x c h d in omega arith

    by : (has x j ≡ true) ⊎ (has x j ≡ false) → has x j ≡ true
    by (inl e) = e
    by (inr e) = let m = below_pow j x (λ c d. lower e c d (cases_eq c j)) in absurd (omega arith)

-- x has the numbers that have f, all below n
module _ (f : ℕ → Bool) (n x : ℕ) (same : (k : ℕ) → has x k ≡ f k) (below : (k : ℕ) → f k ≡ true → k < n) where
  no_member : x ≡ 0 → (k : ℕ) → f k ≡ false
  no_member e k = sym (same k) ∙ ap (λ (y : ℕ). has y k) e ∙ has_zero k

  lower_not : x < 2 ^ 64 → (k : ℕ) → k < count_trailing_zeros 64 x → f k ≡ false
  lower_not small k l =
      sym (same k) ∙ test_false (has x k) (λ h. let m = trailing_least 64 x k h (has_below 64 x k small h) in omega arith)

  pub lowest_empty : x ≡ 0 → (None ≡ lowest_with f n) × LowestOf f None
  lowest_empty e = (
    sym (low_none f n (λ k l. no_member e k)),
    record { chosen = none_chosen f (no_member e); least = λ p h. absurd (none-some p h) },
  )

  pub lowest_some : 0 < x → x < 2 ^ 64 → (Some (count_trailing_zeros 64 x) ≡ lowest_with f n) × LowestOf f (Some (count_trailing_zeros 64 x))
  lowest_some pos small =
      let here = sym (same (count_trailing_zeros 64 x)) ∙ trailing_has 64 x pos small in (
        sym (low_found f n (count_trailing_zeros 64 x) (below (count_trailing_zeros 64 x) here) here (lower_not small)),
        record {
          chosen = one_chosen f (count_trailing_zeros 64 x) here;
          least = λ p h k l. let w : count_trailing_zeros 64 x ≡ p = cc in lower_not small k (omega arith);
        },
      )

  pub highest_empty : x ≡ 0 → (None ≡ highest_with f n) × HighestOf f None
  highest_empty e = (
    sym (high_none f n (no_member e)),
    record { chosen = none_chosen f (no_member e); greatest = λ p h. absurd (none-some p h) },
  )

  pub highest_some : 0 < x → x < 2 ^ 64 → (Some (63 - count_leading_zeros 64 x) ≡ highest_with f n) × HighestOf f (Some (63 - count_leading_zeros 64 x))
  highest_some pos small =
      let (j, e, l, u) = leading_top 64 x pos small in
      let at : 63 - count_leading_zeros 64 x ≡ j = omega arith in
      let here : f j ≡ true = sym (same j) ∙ top_has x j l u in
      let rest : (k : ℕ) → j < k → f k ≡ false = λ k m. sym (same k) ∙ has_high (suc j) x k u (omega arith) in
      let P : ℕ → Type 0 = λ p. (Some p ≡ highest_with f n) × HighestOf f (Some p) in
      subst P (sym at) (
        sym (high_found f n j (below j here) here rest),
        record {
          chosen = one_chosen f j here;
          greatest = λ p h k m. let w : j ≡ p = cc in rest k (omega arith);
        },
      )
