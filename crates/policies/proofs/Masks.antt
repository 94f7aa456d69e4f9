-- The places that may be chosen as the program makes them: what is not taken, cut off by a mask.
use Rattle.std.proofs.Common.{◌≡◌, ℕ, ◌+◌, ◌-◌, ◌/◌, ◌^◌, ◌<◌, ◌≤◌, true, false, not, ◌&&◌, ltb, leb, ◌⊎◌, sym, ◌∙◌, inl, inr, arith, lit<}
use Rattle.std.specs.Prelude.{bit_and}
use Rattle.std.proofs.Math.Bool.{and-true, and-false}
use Rattle.std.proofs.lemmas.Bool.{cases_lt, lt-ltb, le-ltb, le-leb, lt-leb}
use Rattle.bitsets.specs.Sets.{has}
use Rattle.bitsets.proofs.Digits.{has_and, has_all, has_high, has_shr, has_without, has_zero}
use Rattle.policies.specs.Policies.{free}

pub has_untaken : (t n k : ℕ) → t < 2 ^ 64 → n ≤ 64 → has (bit_and (2 ^ 64 - 1 - t) ((2 ^ 64 - 1) / 2 ^ (64 - n))) k ≡ free t n k
has_untaken t n k small le = has_and (2 ^ 64 - 1 - t) ((2 ^ 64 - 1) / 2 ^ (64 - n)) k ∙ by (cases_lt k n)
  where
    by : (k < n) ⊎ (n ≤ k) → (has (2 ^ 64 - 1 - t) k && has ((2 ^ 64 - 1) / 2 ^ (64 - n)) k) ≡ free t n k
    by (inl lt) =
        let a = has_without 64 t k small (omega arith) in
        let b : has ((2 ^ 64 - 1) / 2 ^ (64 - n)) k ≡ true = has_shr (2 ^ 64 - 1) (64 - n) k ∙ has_all 64 (64 - n + k) (omega arith) in
        rw (a, b, lt-ltb k n lt, le-leb n 64 le) (and-true (not (has t k)))
    by (inr ge) =
        let b : has ((2 ^ 64 - 1) / 2 ^ (64 - n)) k ≡ false = has_shr (2 ^ 64 - 1) (64 - n) k ∙ has_high 64 (2 ^ 64 - 1) (64 - n + k) (lit< tt) (omega arith) in
        rw (b, le-ltb k n ge) (and-false (has (2 ^ 64 - 1 - t) k))

-- no place may be chosen where the number of children is not from 1 to 64
pub has_outside : (t n k : ℕ) → (n ≡ 0) ⊎ (64 < n) → has 0 k ≡ free t n k
has_outside t n k (inl e) = has_zero k ∙ sym (let l : ltb k n ≡ false = le-ltb k n (omega arith) in rw l)
has_outside t n k (inr g) = has_zero k ∙ sym (let l : leb n 64 ≡ false = lt-leb n 64 g in rw l (rw (and-false (ltb k n))))
