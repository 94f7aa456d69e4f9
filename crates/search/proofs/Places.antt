-- Sets of places with one place more.
use Rattle.std.proofs.Common.{◌≡◌, ℕ, ◌*◌, ◌%◌, ◌^◌, ◌<◌, true, ◌&&◌, ◌||◌, eqb, ltb, ◌⊎◌, sym, ap, ◌∙◌, inl, inr, ⊎_elim, arith}
use Rattle.std.specs.Prelude.{bit_or}
use Rattle.std.proofs.lemmas.Nat.{one_shl}
use Rattle.std.proofs.lemmas.Bool.{eqb-true, cond-true, cond-false, lt-ltb, le-ltb, cases_lt}
use Rattle.bitsets.specs.Sets.{has}
use Rattle.bitsets.proofs.Digits.{has_ext, has_pow, has_below, below_pow, or_has}
use Rattle.bitsets.proofs.Words.{has_insert, insert_past}
use Rattle.search.specs.Steps.{with_place}

-- a member of a set with one place more is that place, or was a member before
pub added : (t p q : ℕ) → has (bit_or t (2 ^ p)) q ≡ true → (q ≡ p) ⊎ (has t q ≡ true)
added t p q h =
    ⊎_elim (λ x. inr x) (λ x. inl (eqb-true q p (sym (has_pow p q) ∙ x))) (or_has t (2 ^ p) q h)

pub added_small : (t p : ℕ) → t < 2 ^ 64 → p < 64 → bit_or t (2 ^ p) < 2 ^ 64
added_small t p s h =
    below_pow 64 (bit_or t (2 ^ p)) (λ c m. ⊎_elim (λ e. omega arith) (λ b. has_below 64 t c s b) (added t p c m))

pub with_small : (t p : ℕ) → p < 64 → with_place t p ≡ bit_or t (2 ^ p)
unfolding with_place
with_small t p h = cond-true _ _ _ (lt-ltb p 64 h)

-- the word that `with` leaves
pub with_is : (t p r : ℕ) → ((k : ℕ) → has r k ≡ (has t k || (eqb k p && ltb k 64))) → r ≡ with_place t p
unfolding with_place
with_is t p r h =
    ⊎_elim
    (λ lt.
    has_ext r (bit_or t ((1 * 2 ^ p) % 2 ^ 64)) (λ k. h k ∙ sym (has_insert 64 t p k lt))
    ∙ ap (λ (x : ℕ). bit_or t x) (one_shl p 64 lt) ∙ sym (cond-true _ _ _ (lt-ltb p 64 lt)))
    (λ le. has_ext r t (λ k. h k ∙ sym (insert_past 64 t p k le)) ∙ sym (cond-false _ _ _ (le-ltb p 64 le)))
    (cases_lt p 64)
