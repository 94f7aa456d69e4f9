-- Families of sets of six layouts. The layouts go by the numbers 0 to 5; a set is the sum of 2 ^ i over its layouts i,
-- and a family the sum of 2 ^ s over its sets s.
use Rattle.std.specs.Prelude.{◌≡◌, ℕ, zero, suc, ◌*◌, ◌/◌, ◌^◌, ◌<◌, Bool, true, cond, ◌&&◌, ◌==◌, bit_and, bit_or, nat_lt}
use Rattle.bitsets.specs.Sets.{has, Part}

-- n is a family: it has the empty set, and each part of a set that it has
pub record IsFamily (n : ℕ) : Type 0 where
  pub small : n < 2 ^ 64
  pub empty : has n 0 ≡ true
  pub closed : (s t : ℕ) → Part s t → has n t ≡ true → has n s ≡ true

-- the sets of n, and each of them with layout i added
abbrev pub doubled : ℕ → ℕ → ℕ
doubled n i = bit_or n (n * 2 ^ 2 ^ i)

-- the parts of the set x whose layouts are below k: just the empty set below 0; one layout more doubles them if x has it
unfoldable pub parts_below : ℕ → ℕ → ℕ
parts_below x zero = 1
parts_below x (suc k) = cond (has x k) (doubled (parts_below x k) k) (parts_below x k)

-- the sets that have layout i
abbrev pub sets_with : ℕ → ℕ
sets_with zero = 0xaaaa_aaaa_aaaa_aaaa
sets_with (suc zero) = 0xcccc_cccc_cccc_cccc
sets_with (suc (suc zero)) = 0xf0f0_f0f0_f0f0_f0f0
sets_with (suc (suc (suc zero))) = 0xff00_ff00_ff00_ff00
sets_with (suc (suc (suc (suc zero)))) = 0xffff_0000_ffff_0000
sets_with (suc (suc (suc (suc (suc i))))) = 0xffff_ffff_0000_0000

-- the sets of n that have layout i, each without it
abbrev pub without : ℕ → ℕ → ℕ
without n i = bit_and n (sets_with i) / 2 ^ 2 ^ i

-- the sets of n, each without one of the layouts below k
abbrev pub without_one : ℕ → ℕ → ℕ
without_one n zero = 0
without_one n (suc k) = bit_or (without_one n k) (without n k)

-- the test for a family by masks: it has the empty set, and each of its sets without any one layout
abbrev pub family_test : ℕ → Bool
family_test n = nat_lt n (2 ^ 64) && (has n 0 && bit_and (without_one n 6) n == without_one n 6)
