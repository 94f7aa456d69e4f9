-- The parts of a set by doubling: `parts_below x k` has exactly the parts of x whose layouts are below k.
use Rattle.std.proofs.Common.{◌≡◌, ℕ, zero, suc, ◌+◌, ◌-◌, ◌*◌, ◌^◌, ◌<◌, ◌≤◌, true, false, cond, ◌⊎◌, sym, ◌∙◌, subst, inl, inr, arith}
use native.Mathlib.Nat.{pow-succ'}
use Rattle.std.proofs.lemmas.Bool.{both_ways, cases_lt, cases_eq, cases_Bool, cond_both, eqb-true, eq-eqb}
use Rattle.bitsets.specs.Sets.{has, Part}
use Rattle.bitsets.proofs.Digits.{has_pow, has_zero, has_below, has_shifted, shifted_has, below_pow, sub_part, sub_keeps, or_has, or_has_l, or_has_r}
use Rattle.bitsets.specs.Families.{doubled, parts_below}

-- the top digit of a number of k + 1 digits
top_digit : (k t : ℕ) → 2 ^ k ≤ t → t < 2 ^ suc k → has t k ≡ true
top_digit k t l m = by (cases_Bool (has t k))
  where
    low : has t k ≡ false → (c : ℕ) → has t c ≡ true → c < k
    low e c h = among (cases_eq c k)
      where
        among : (c ≡ k) ⊎ (c ≡ k → ⊥) → c < k
        among (inl q) = absurd (both_ways (has t k) e (subst (λ (y : ℕ). has t y ≡ true) q h))
        among (inr q) = let b = has_below (suc k) t c m h in omega arith

    by : (has t k ≡ true) ⊎ (has t k ≡ false) → has t k ≡ true
    by (inl e) = e
    by (inr e) = let b = below_pow k t (low e) in absurd (omega arith)

-- f has exactly the parts of x whose layouts are below k
pub record PartsOf (x k f : ℕ) : Type 0 where
  pub all : (t : ℕ) → Part t x → t < 2 ^ k → has f t ≡ true
  pub only : (t : ℕ) → has f t ≡ true → (Part t x) × (t < 2 ^ k)

-- one layout more
module _ (x k f : ℕ) (is : PartsOf x k f) where
  all_more : (t : ℕ) → Part t x → t < 2 ^ suc k → has (cond (has x k) (doubled f k) f) t ≡ true
  all_more t p l =
      cond_both (has x k) (doubled f k) f (λ (y : ℕ). has y t ≡ true) (λ e. yes_k (cases_lt t (2 ^ k))) (λ e. no_k e (cases_lt t (2 ^ k)))
    where
      yes_k : (t < 2 ^ k) ⊎ (2 ^ k ≤ t) → has (doubled f k) t ≡ true
      yes_k (inl b) = or_has_l f (f * 2 ^ 2 ^ k) t (is.all t p b)
      yes_k (inr b) =
          let d = top_digit k t b l in
          let m : t - 2 ^ k < 2 ^ k = let q = pow-succ' 2 k in omega arith in
          let s : 2 ^ k + (t - 2 ^ k) ≡ t = omega arith in
          or_has_r f (f * 2 ^ 2 ^ k) t
          (subst (λ (y : ℕ). has (f * 2 ^ 2 ^ k) y ≡ true) s
          (has_shifted f (2 ^ k) (t - 2 ^ k) ∙ is.all (t - 2 ^ k) (λ c h. p c (sub_part t k d c h)) m))

      no_k : has x k ≡ false → (t < 2 ^ k) ⊎ (2 ^ k ≤ t) → has f t ≡ true
      no_k e (inl b) = is.all t p b
      no_k e (inr b) = absurd (both_ways (has x k) e (p k (top_digit k t b l)))

  only_more : (t : ℕ) → has (cond (has x k) (doubled f k) f) t ≡ true → (Part t x) × (t < 2 ^ suc k)
  only_more t =
      cond_both (has x k) (doubled f k) f (λ (y : ℕ). has y t ≡ true → (Part t x) × (t < 2 ^ suc k))
      (λ e h. yes_k e (or_has f (f * 2 ^ 2 ^ k) t h)) (λ e h. wider (is.only t h))
    where
      wider : (Part t x) × (t < 2 ^ k) → (Part t x) × (t < 2 ^ suc k)
      wider r = let q = pow-succ' 2 k in let b = r.1 in (r.0, omega arith)

      yes_k : has x k ≡ true → (has f t ≡ true) ⊎ (has (f * 2 ^ 2 ^ k) t ≡ true) → (Part t x) × (t < 2 ^ suc k)
      yes_k e (inl a) = wider (is.only t a)
      yes_k e (inr a) = (inside, m)
        where
          up : (2 ^ k ≤ t) × (has f (t - 2 ^ k) ≡ true)
          up = shifted_has f (2 ^ k) t a

          rest : (Part (t - 2 ^ k) x) × (t - 2 ^ k < 2 ^ k)
          rest = is.only (t - 2 ^ k) up.1

          m : t < 2 ^ suc k
          m = let q = pow-succ' 2 k in let b = up.0 in let r = rest.1 in omega arith

          inside : Part t x
          inside c h = among (cases_eq c k)
            where
              among : (c ≡ k) ⊎ (c ≡ k → ⊥) → has x c ≡ true
              among (inl q) = subst (λ (y : ℕ). has x y ≡ true) (sym q) e
              among (inr q) = rest.0 c (sub_keeps t k c (top_digit k t up.0 m) q h)

-- by doubling
pub parts_of_below : (x k : ℕ) → PartsOf x k (parts_below x k)
unfolding parts_below
parts_of_below x zero = record { all = λ t p l. has_pow 0 t ∙ eq-eqb t 0 (omega arith); only = none }
  where
    none : (t : ℕ) → has 1 t ≡ true → (Part t x) × (t < 2 ^ 0)
    none t h =
        let z : t ≡ 0 = eqb-true t 0 (sym (has_pow 0 t) ∙ h) in
        (λ c e. absurd (both_ways (has 0 c) (has_zero c) (subst (λ (y : ℕ). has y c ≡ true) z e)), omega arith)
parts_of_below x (suc k) =
    let is = parts_of_below x k in record { all = all_more x k (parts_below x k) is; only = only_more x k (parts_below x k) is }
