-- Sets of small numbers, each kept as the sum of 2 ^ c over its members c: the binary digits of one number.
use Rattle.std.specs.Prelude.{◌≡◌, ℕ, zero, suc, ◌/◌, ◌%◌, ◌^◌, Bool, true, cond, List, [], ◌∷◌, ◌==◌}

-- whether the set h has the member c
unfoldable pub has : ℕ → ℕ → Bool
has h c = h / 2 ^ c % 2 == 1

-- each member of s is one of t
abbrev pub Part : ℕ → ℕ → Type 0
Part s t = (c : ℕ) → has s c ≡ true → has t c ≡ true

-- the members of x from i on and below i + k, rising
abbrev pub members_from : ℕ → ℕ → ℕ → List ℕ
members_from x i zero = []
members_from x i (suc k) = cond (has x i) (i ∷ members_from x (suc i) k) (members_from x (suc i) k)

-- the members below k, rising
unfoldable pub members : ℕ → ℕ → List ℕ
members k x = members_from x 0 k
