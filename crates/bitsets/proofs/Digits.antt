-- Numbers as sets of their binary digits: `has` of the bit operations, of sums and of differences, counts, and equality by digits.
use Rattle.std.proofs.Common.{◌≡◌, ℕ, zero, suc, ◌+◌, ◌-◌, ◌*◌, ◌/◌, ◌%◌, ◌^◌, ◌<◌, ◌≤◌, Bool, true, false, cond, not, ◌&&◌, ◌||◌, eqb, ◌⊎◌, sym, refl, ap, ◌∙◌, subst, inl, inr, suc-le-suc, zero-le, lt_of_lt_of_le, mod-lt, zero-lt-suc, zero-add, div-one, one-add, arith, pow_pos, pow_mono, shr-shr, bit_and, bit_or, bit_xor}
use mathlib.Core.Bool.{beq}
use native.Mathlib.Nat.{zero-div, div-eq_of_lt, pow-succ'}
use lib.Dec.{eqb-suc-zero, eqb-zero-suc, eqb-suc-suc}
use lib.Bits.{xor_add_and, xor_disjoint, and_step, or_step, shifted_half, shifted_even}
use lib.Pow.{pow-lt}
use lib.Arith.{bin_ind}
use lib.Count.{ones, ones_step, count_trailing_zeros, under}
use Rattle.std.proofs.lemmas.Bool.{both_ways, eqb-true, eq-eqb, ne_eqb, cases_lt, cases_eq, and_parts, and_from, or_cases, or_left, or_right, not-true, not-false, cond_both, true≢false, false≢true}
use Rattle.std.proofs.lemmas.Nat.{le-div, one_shl, xor_shr, xor_mod, and_mask, and_shr, or_shr, and_mod, or_mod, or_disjoint, and_comm, or_lt, and_le_r, shl-shr}
use Rattle.bitsets.specs.Sets.{has, Part}

two_pos : zero < 2
two_pos = zero-lt-suc 1

-- ---- tests

-- two tests that are true together are equal
pub same_test : (x y : Bool) → (x ≡ true → y ≡ true) → (y ≡ true → x ≡ true) → x ≡ y
same_test true true f g = refl
same_test true false f g = sym (f refl)
same_test false true f g = g refl
same_test false false f g = refl

-- a test that is not true is false
pub test_false : (x : Bool) → (x ≡ true → ⊥) → x ≡ false
test_false true f = absurd (f refl)
test_false false f = refl

-- ---- digits

digit : (n : ℕ) → n % 2 < 2
digit n = mod-lt n two_pos

digit_cases : (x : ℕ) → x < 2 → (x ≡ 0) ⊎ (x ≡ 1)
digit_cases zero h = inl refl
digit_cases (suc zero) h = inr refl
digit_cases (suc (suc x)) h = absurd (omega arith)

digit_and : (x y : ℕ) → x < 2 → y < 2 → eqb (bit_and x y) 1 ≡ (eqb x 1 && eqb y 1)
digit_and zero y hx hy = refl
digit_and (suc zero) zero hx hy = refl
digit_and (suc zero) (suc zero) hx hy = refl
digit_and (suc zero) (suc (suc y)) hx hy = absurd (omega arith)
digit_and (suc (suc x)) y hx hy = absurd (omega arith)

digit_or : (x y : ℕ) → x < 2 → y < 2 → eqb (bit_or x y) 1 ≡ (eqb x 1 || eqb y 1)
digit_or zero y hx hy = refl
digit_or (suc zero) zero hx hy = refl
digit_or (suc zero) (suc zero) hx hy = refl
digit_or (suc zero) (suc (suc y)) hx hy = absurd (omega arith)
digit_or (suc (suc x)) y hx hy = absurd (omega arith)

-- ---- the operations, digit by digit

pub has_and : (a b c : ℕ) → has (bit_and a b) c ≡ (has a c && has b c)
unfolding has
has_and a b c =
    ap (λ (x : ℕ). eqb (x % 2) 1) (and_shr a b c) ∙ ap (λ (x : ℕ). eqb x 1) (and_mod (a / 2 ^ c) (b / 2 ^ c) 1)
    ∙ digit_and (a / 2 ^ c % 2) (b / 2 ^ c % 2) (digit (a / 2 ^ c)) (digit (b / 2 ^ c))

pub has_or : (a b c : ℕ) → has (bit_or a b) c ≡ (has a c || has b c)
unfolding has
has_or a b c =
    ap (λ (x : ℕ). eqb (x % 2) 1) (or_shr a b c) ∙ ap (λ (x : ℕ). eqb x 1) (or_mod (a / 2 ^ c) (b / 2 ^ c) 1)
    ∙ digit_or (a / 2 ^ c % 2) (b / 2 ^ c % 2) (digit (a / 2 ^ c)) (digit (b / 2 ^ c))

-- the same as implications
pub and_has : (a b c : ℕ) → has a c ≡ true → has b c ≡ true → has (bit_and a b) c ≡ true
and_has a b c p q = has_and a b c ∙ and_from (has a c) (has b c) p q

pub and_has_l : (a b c : ℕ) → has (bit_and a b) c ≡ true → has a c ≡ true
and_has_l a b c h = (and_parts (has a c) (has b c) (sym (has_and a b c) ∙ h)).0

pub and_has_r : (a b c : ℕ) → has (bit_and a b) c ≡ true → has b c ≡ true
and_has_r a b c h = (and_parts (has a c) (has b c) (sym (has_and a b c) ∙ h)).1

pub or_has : (a b c : ℕ) → has (bit_or a b) c ≡ true → (has a c ≡ true) ⊎ (has b c ≡ true)
or_has a b c h = or_cases (has a c) (has b c) (sym (has_or a b c) ∙ h)

pub or_has_l : (a b c : ℕ) → has a c ≡ true → has (bit_or a b) c ≡ true
or_has_l a b c h = has_or a b c ∙ or_left (has a c) (has b c) h

pub or_has_r : (a b c : ℕ) → has b c ≡ true → has (bit_or a b) c ≡ true
or_has_r a b c h = has_or a b c ∙ or_right (has a c) (has b c) h

-- ---- the lowest digit and the rest

pub has_first : (n : ℕ) → has n 0 ≡ eqb (n % 2) 1
unfolding has
has_first n = ap (λ (x : ℕ). eqb (x % 2) 1) (div-one n)

pub has_rest : (n c : ℕ) → has n (suc c) ≡ has (n / 2) c
unfolding has
has_rest n c = ap (λ (x : ℕ). eqb (x % 2) 1) (ap (λ (k : ℕ). n / 2 ^ k) (sym (one-add c)) ∙ sym (shr-shr n 1 c))

pub has_zero : (c : ℕ) → has 0 c ≡ false
unfolding has
has_zero c = ap (λ (x : ℕ). eqb (x % 2) 1) (zero-div (2 ^ c))

-- a number below 2 ^ k has no digit from k on
pub has_high : (k n c : ℕ) → n < 2 ^ k → k ≤ c → has n c ≡ false
unfolding has
has_high k n c h l = ap (λ (x : ℕ). eqb (x % 2) 1) (div-eq_of_lt (lt_of_lt_of_le h (pow_mono l)))

pub has_below : (k n c : ℕ) → n < 2 ^ k → has n c ≡ true → c < k
has_below k n c h e = by (cases_lt c k)
  where
    by : (c < k) ⊎ (k ≤ c) → c < k
    by (inl l) = l
    by (inr l) = absurd (both_ways (has n c) (has_high k n c h l) e)

-- ---- equality by digits

digit_same : (x y : ℕ) → x < 2 → y < 2 → eqb x 1 ≡ eqb y 1 → x ≡ y
digit_same zero zero hx hy e = refl
digit_same zero (suc zero) hx hy e = absurd (false≢true e)
digit_same zero (suc (suc y)) hx hy e = absurd (omega arith)
digit_same (suc zero) zero hx hy e = absurd (true≢false e)
digit_same (suc zero) (suc zero) hx hy e = refl
digit_same (suc zero) (suc (suc y)) hx hy e = absurd (omega arith)
digit_same (suc (suc x)) y hx hy e = absurd (omega arith)

by_halves : (a b : ℕ) → a / 2 ≡ b / 2 → a % 2 ≡ b % 2 → a ≡ b
by_halves a b p q = omega arith

rest_same : (a b : ℕ) → ((c : ℕ) → has a c ≡ has b c) → (c : ℕ) → has (a / 2) c ≡ has (b / 2) c
rest_same a b h c = sym (has_rest a c) ∙ h (suc c) ∙ has_rest b c

first_same : (a b : ℕ) → has a 0 ≡ has b 0 → a % 2 ≡ b % 2
first_same a b h = digit_same (a % 2) (b % 2) (digit a) (digit b) (sym (has_first a) ∙ h ∙ has_first b)

none_zero : (b : ℕ) → ((c : ℕ) → has 0 c ≡ has b c) → 0 ≡ b
none_zero =
    bin_ind (λ (b : ℕ). ((c : ℕ) → has 0 c ≡ has b c) → 0 ≡ b) (λ h. refl)
    (λ b ih h. by_halves 0 b (ih (rest_same 0 b h)) (first_same 0 b (h 0)))

-- two numbers with the same digits are equal
pub has_ext : (a b : ℕ) → ((c : ℕ) → has a c ≡ has b c) → a ≡ b
has_ext =
    bin_ind (λ (a : ℕ). (b : ℕ) → ((c : ℕ) → has a c ≡ has b c) → a ≡ b) none_zero
    (λ a ih b h. by_halves a b (ih (b / 2) (rest_same a b h)) (first_same a b (h 0)))

-- the same, by parts
pub part_both : (a b : ℕ) → Part a b → Part b a → a ≡ b
part_both a b p q = has_ext a b (λ c. same_test (has a c) (has b c) (p c) (q c))

-- ---- parts

-- the test by `and`
pub part_and : (s t : ℕ) → Part s t → bit_and s t ≡ s
part_and s t p = part_both (bit_and s t) s (λ c e. and_has_l s t c e) (λ c e. and_has s t c e (p c e))

pub and_part : (s t : ℕ) → bit_and s t ≡ s → Part s t
and_part s t e c h = and_has_r s t c (ap (λ (x : ℕ). has x c) e ∙ h)

pub part_le : (s t : ℕ) → Part s t → s ≤ t
part_le s t p = subst (λ (x : ℕ). x ≤ t) (part_and s t p) (and_le_r s t)

pub part_of_zero : (s : ℕ) → Part s 0 → s ≡ 0
part_of_zero s p = let l = part_le s 0 p in omega arith

-- ---- members

-- a number other than 0 has some digit
pub some_digit : (n : ℕ) → 0 < n → (c : ℕ) × (has n c ≡ true)
some_digit =
    bin_ind (λ (n : ℕ). 0 < n → (c : ℕ) × (has n c ≡ true)) (λ h. absurd (omega arith)) (λ n ih h. by n ih h (cases_lt 0 (n / 2)))
  where
    by : (n : ℕ) → (0 < n / 2 → (c : ℕ) × (has (n / 2) c ≡ true)) → 0 < n → (0 < n / 2) ⊎ (n / 2 ≤ 0) → (c : ℕ) × (has n c ≡ true)
    by n ih h (inl p) = (suc (ih p).0, has_rest n (ih p).0 ∙ (ih p).1)
    by n ih h (inr p) = (0, has_first n ∙ eq-eqb (n % 2) 1 (omega arith))

-- ---- sets with no member in common

pub apart : (a b : ℕ) → ((c : ℕ) → has a c ≡ true → has b c ≡ true → ⊥) → bit_and a b ≡ 0
apart a b f =
    has_ext (bit_and a b) 0
    (λ c. test_false (has (bit_and a b) c) (λ h. f c (and_has_l a b c h) (and_has_r a b c h)) ∙ sym (has_zero c))

pub apart_out : (a b c : ℕ) → bit_and a b ≡ 0 → has a c ≡ true → has b c ≡ false
apart_out a b c e h =
    test_false (has b c) (λ k. both_ways (has 0 c) (has_zero c) (ap (λ (x : ℕ). has x c) (sym e) ∙ and_has a b c h k))

-- ---- powers of two, and sums of them

even_power : (k : ℕ) → (2 ^ suc k % 2 ≡ 0) × (2 ^ suc k / 2 ≡ 2 ^ k)
even_power k = let e = pow-succ' 2 k in (omega arith, omega arith)

pub has_pow : (k c : ℕ) → has (2 ^ k) c ≡ eqb c k
unfolding has
has_pow zero zero = refl
has_pow zero (suc c) = has_rest 1 c ∙ has_zero c ∙ sym (eqb-suc-zero c)
has_pow (suc k) zero = has_first (2 ^ suc k) ∙ ap (λ (x : ℕ). eqb x 1) (even_power k).0 ∙ sym (eqb-zero-suc k)
has_pow (suc k) (suc c) =
    has_rest (2 ^ suc k) c ∙ ap (λ (x : ℕ). has x c) (even_power k).1 ∙ has_pow k c ∙ sym (eqb-suc-suc c k)

pub pow_has : (k : ℕ) → has (2 ^ k) k ≡ true
pow_has k = has_pow k k ∙ eq-eqb k k refl

-- one more member
pub has_add : (i y j : ℕ) → has y i ≡ false → has (2 ^ i + y) j ≡ (eqb j i || has y j)
has_add i y j e =
    ap (λ (x : ℕ). has x j) (sym (or_disjoint (2 ^ i) y (apart (2 ^ i) y lone)))
    ∙ has_or (2 ^ i) y j ∙ ap (λ (b : Bool). b || has y j) (has_pow i j)
  where
    lone : (c : ℕ) → has (2 ^ i) c ≡ true → has y c ≡ true → ⊥
    lone c p q = both_ways (has y i) e (subst (λ (x : ℕ). has y x ≡ true) (eqb-true c i (sym (has_pow i c) ∙ p)) q)

-- one more member, if a test says so
pub has_flag : (b : Bool) (i y j : ℕ) → has y i ≡ false → has (cond b (2 ^ i) 0 + y) j ≡ ((b && eqb j i) || has y j)
has_flag true i y j e = has_add i y j e
has_flag false i y j e = ap (λ (x : ℕ). has x j) (zero-add y)

-- the numbers below k
pub has_all : (k c : ℕ) → c < k → has (2 ^ k - 1) c ≡ true
has_all zero c h = absurd (omega arith)
has_all (suc k) zero h =
    let e = pow-succ' 2 k in let p = pow_pos k in
    has_first (2 ^ suc k - 1) ∙ eq-eqb ((2 ^ suc k - 1) % 2) 1 (omega arith)
has_all (suc k) (suc c) h =
    let e = pow-succ' 2 k in let p = pow_pos k in
    let half : (2 ^ suc k - 1) / 2 ≡ 2 ^ k - 1 = omega arith in
    has_rest (2 ^ suc k - 1) c ∙ ap (λ (x : ℕ). has x c) half ∙ has_all k c (omega arith)

pub all_has : (k c : ℕ) → has (2 ^ k - 1) c ≡ true → c < k
all_has k c h = let p = pow_pos k in has_below k (2 ^ k - 1) c (omega arith) h

or_false : (b : Bool) → (b || false) ≡ b
or_false true = refl
or_false false = refl

-- one member put in
pub has_put : (x c : ℕ) → has (bit_or x (2 ^ c)) c ≡ true
has_put x c = has_or x (2 ^ c) c ∙ or_right (has x c) (has (2 ^ c) c) (has_pow c c ∙ eq-eqb c c refl)

pub has_put_other : (x c j : ℕ) → (j ≡ c → ⊥) → has (bit_or x (2 ^ c)) j ≡ has x j
has_put_other x c j n =
    has_or x (2 ^ c) j ∙ ap (λ (b : Bool). has x j || b) (has_pow c j ∙ ne_eqb j c n) ∙ or_false (has x j)

pub put_small : (x i c : ℕ) → x < 2 ^ i → i ≤ c → bit_or x (2 ^ c) < 2 ^ suc c
put_small x i c h l =
    let m = pow_mono l in
    let e = pow-succ' 2 c in
    or_lt (suc c) x (2 ^ c) (omega arith) (let l : c < suc c = omega arith in pow-lt l)

-- all of a set's members moved up
pub has_shifted : (a k j : ℕ) → has (a * 2 ^ k) (k + j) ≡ has a j
unfolding has
has_shifted a k j = ap (λ (x : ℕ). eqb (x % 2) 1) (sym (shr-shr (a * 2 ^ k) k j) ∙ ap (λ (x : ℕ). x / 2 ^ j) (shl-shr a k))

-- and down
pub has_shr : (x k c : ℕ) → has (x / 2 ^ k) c ≡ has x (k + c)
unfolding has
has_shr x k c = ap (λ (y : ℕ). eqb (y % 2) 1) (shr-shr x k c)

pub shifted_has : (a k c : ℕ) → has (a * 2 ^ k) c ≡ true → (k ≤ c) × (has a (c - k) ≡ true)
shifted_has a zero c h =
    let e : c - 0 ≡ c = omega arith in
    let m : a * 1 ≡ a = omega arith in
    (zero-le, ap (λ (x : ℕ). has a x) e ∙ ap (λ (x : ℕ). has x c) (sym m) ∙ h)
shifted_has a (suc k) zero h =
    absurd (both_ways (has (a * 2 ^ suc k) 0) (has_first (a * 2 ^ suc k) ∙ ap (λ (x : ℕ). eqb x 1) (shifted_even a k)) h)
shifted_has a (suc k) (suc c) h =
    let r = shifted_has a k c (ap (λ (x : ℕ). has x c) (sym (shifted_half a k)) ∙ sym (has_rest (a * 2 ^ suc k) c) ∙ h) in
    let e : suc c - suc k ≡ c - k = omega arith in
    (suc-le-suc r.0, ap (λ (x : ℕ). has a x) e ∙ r.1)

-- a number whose members are all below k
pub below_pow : (k n : ℕ) → ((c : ℕ) → has n c ≡ true → c < k) → n < 2 ^ k
below_pow k n f = by (cases_lt n (2 ^ k))
  where
    by : (n < 2 ^ k) ⊎ (2 ^ k ≤ n) → n < 2 ^ k
    by (inl l) = l
    by (inr l) =
        let s = some_digit (n / 2 ^ k) (le-div 1 n (2 ^ k) (pow_pos k) (omega arith)) in
        let m = f (k + s.0) (sym (has_shr n k s.0) ∙ s.1) in
        absurd (omega arith)

-- ---- one member less

-- a member's power is not above the set
pub has_le : (x k : ℕ) → has x k ≡ true → 2 ^ k ≤ x
has_le x k h = by (cases_lt x (2 ^ k))
  where
    by : (x < 2 ^ k) ⊎ (2 ^ k ≤ x) → 2 ^ k ≤ x
    by (inl l) = absurd (both_ways (has x k) (has_high k x k l (omega arith)) h)
    by (inr l) = l

odd : (x : ℕ) → has x 0 ≡ true → x % 2 ≡ 1
odd x h = eqb-true (x % 2) 1 (sym (has_first x) ∙ h)

less_one : (x : ℕ) → has x 0 ≡ true → ((x - 1) / 2 ≡ x / 2) × ((x - 1) % 2 ≡ 0)
less_one x h = let o = odd x h in (omega arith, omega arith)

less_pow : (x k : ℕ) → has x (suc k) ≡ true → ((x - 2 ^ suc k) / 2 ≡ x / 2 - 2 ^ k) × ((x - 2 ^ suc k) % 2 ≡ x % 2)
less_pow x k h = let l = has_le x (suc k) h in let e = pow-succ' 2 k in (omega arith, omega arith)

pub sub_has_not : (x k : ℕ) → has x k ≡ true → has (x - 2 ^ k) k ≡ false
sub_has_not x zero h = has_first (x - 1) ∙ ap (λ (y : ℕ). eqb y 1) (less_one x h).1
sub_has_not x (suc k) h =
    has_rest (x - 2 ^ suc k) k ∙ ap (λ (y : ℕ). has y k) (less_pow x k h).0 ∙ sub_has_not (x / 2) k (sym (has_rest x k) ∙ h)

pub sub_has_other : (x k c : ℕ) → has x k ≡ true → (c ≡ k → ⊥) → has (x - 2 ^ k) c ≡ has x c
sub_has_other x zero zero h n = absurd (n refl)
sub_has_other x zero (suc c) h n = has_rest (x - 1) c ∙ ap (λ (y : ℕ). has y c) (less_one x h).0 ∙ sym (has_rest x c)
sub_has_other x (suc k) zero h n =
    has_first (x - 2 ^ suc k) ∙ ap (λ (y : ℕ). eqb y 1) (less_pow x k h).1 ∙ sym (has_first x)
sub_has_other x (suc k) (suc c) h n =
    has_rest (x - 2 ^ suc k) c ∙ ap (λ (y : ℕ). has y c) (less_pow x k h).0
    ∙ sub_has_other (x / 2) k c (sym (has_rest x k) ∙ h) (λ e. n (ap suc e)) ∙ sym (has_rest x c)

pub has_sub : (x k c : ℕ) → has x k ≡ true → has (x - 2 ^ k) c ≡ (has x c && not (eqb c k))
has_sub x k c h = by (cases_eq c k)
  where
    right_false : (b : Bool) → (b && false) ≡ false
    right_false true = refl
    right_false false = refl

    right_true : (b : Bool) → (b && true) ≡ b
    right_true true = refl
    right_true false = refl

    by : (c ≡ k) ⊎ (c ≡ k → ⊥) → has (x - 2 ^ k) c ≡ (has x c && not (eqb c k))
    by (inl e) =
        ap (λ (j : ℕ). has (x - 2 ^ k) j) e ∙ sub_has_not x k h ∙ sym (right_false (has x c))
        ∙ ap (λ (b : Bool). has x c && not b) (sym (eq-eqb c k e))
    by (inr n) = sub_has_other x k c h n ∙ sym (right_true (has x c)) ∙ ap (λ (b : Bool). has x c && not b) (sym (ne_eqb c k n))

-- the rest of a set keeps what else it had, and has nothing new
pub sub_keeps : (x k c : ℕ) → has x k ≡ true → (c ≡ k → ⊥) → has x c ≡ true → has (x - 2 ^ k) c ≡ true
sub_keeps x k c h n e = sub_has_other x k c h n ∙ e

pub sub_part : (x k : ℕ) → has x k ≡ true → Part (x - 2 ^ k) x
sub_part x k h c e = (and_parts (has x c) (not (eqb c k)) (sym (has_sub x k c h) ∙ e)).0

swap_and : (x y z : Bool) → (x && (y && z)) ≡ ((x && y) && z)
swap_and true y z = refl
swap_and false y z = refl

-- what a hand has left when a card of it goes, and when a card of another goes
pub and_sub_in : (a x k : ℕ) → has a k ≡ true → has x k ≡ true → bit_and a (x - 2 ^ k) ≡ bit_and a x - 2 ^ k
and_sub_in a x k p q =
    has_ext (bit_and a (x - 2 ^ k)) (bit_and a x - 2 ^ k)
    (λ c. has_and a (x - 2 ^ k) c ∙ ap (λ (b : Bool). has a c && b) (has_sub x k c q) ∙ swap_and (has a c) (has x c) (not (eqb c k))
    ∙ ap (λ (b : Bool). b && not (eqb c k)) (sym (has_and a x c)) ∙ sym (has_sub (bit_and a x) k c (and_has a x k p q)))

pub and_sub_out : (a x k : ℕ) → has a k ≡ false → has x k ≡ true → bit_and a (x - 2 ^ k) ≡ bit_and a x
and_sub_out a x k p q =
    part_both (bit_and a (x - 2 ^ k)) (bit_and a x)
    (λ c h. and_has a x c (and_has_l a (x - 2 ^ k) c h) (sub_part x k q c (and_has_r a (x - 2 ^ k) c h)))
    (λ c h. and_has a (x - 2 ^ k) c (and_has_l a x c h)
    (sub_keeps x k c q (λ e. both_ways (has a k) p (subst (λ (j : ℕ). has a j ≡ true) e (and_has_l a x c h))) (and_has_r a x c h)))

-- ---- what programs write: a test by `&`, and a member put in or taken out by `|` and `^`

pub shr_test : (h c : ℕ) → eqb (bit_and (h / 2 ^ c) 1) 1 ≡ has h c
unfolding has
shr_test h c = ap (λ (x : ℕ). eqb x 1) (and_mask (h / 2 ^ c) 1)

pub and_pow : (h c : ℕ) → bit_and h (2 ^ c) ≡ cond (has h c) (2 ^ c) 0
and_pow h c =
    cond_both (has h c) (2 ^ c) 0 (λ (x : ℕ). bit_and h (2 ^ c) ≡ x)
    (λ e. and_comm h (2 ^ c) ∙ part_and (2 ^ c) h (λ j k. subst (λ (y : ℕ). has h y ≡ true) (sym (only j k)) e))
    (λ e. apart h (2 ^ c) (λ j k m. both_ways (has h c) e (subst (λ (y : ℕ). has h y ≡ true) (only j m) k)))
  where
    only : (j : ℕ) → has (2 ^ c) j ≡ true → j ≡ c
    only j k = eqb-true j c (sym (has_pow c j) ∙ k)

pub and_pow_test : (h c : ℕ) → eqb (bit_and h (2 ^ c)) 0 ≡ not (has h c)
and_pow_test h c = ap (λ (x : ℕ). eqb x 0) (and_pow h c) ∙ by (has h c)
  where
    by : (b : Bool) → eqb (cond b (2 ^ c) 0) 0 ≡ not b
    by true = ne_eqb (2 ^ c) 0 (let p = pow_pos c in omega arith)
    by false = refl

pub or_pow_new : (h c : ℕ) → has h c ≡ false → bit_or h (2 ^ c) ≡ h + 2 ^ c
or_pow_new h c e = or_disjoint h (2 ^ c) (and_pow h c ∙ ap (λ (b : Bool). cond b (2 ^ c) 0) e)

pub xor_pow_out : (h c : ℕ) → has h c ≡ true → bit_xor h (2 ^ c) ≡ h - 2 ^ c
xor_pow_out h c e =
    let s = xor_add_and h (2 ^ c) in let l = has_le h c e in
    let a : bit_and h (2 ^ c) ≡ 2 ^ c = and_pow h c ∙ ap (λ (b : Bool). cond b (2 ^ c) 0) e in
    omega arith

pub xor_pow_in : (h c : ℕ) → has h c ≡ false → bit_xor h (2 ^ c) ≡ h + 2 ^ c
xor_pow_in h c e = xor_disjoint h (2 ^ c) (and_pow h c ∙ ap (λ (b : Bool). cond b (2 ^ c) 0) e)

-- the same with `1 << c` as a program of w bits has it
pub shl_test : (w h c : ℕ) → c < w → not (eqb (bit_and h ((1 * 2 ^ c) % 2 ^ w)) 0) ≡ has h c
shl_test w h c l =
    ap (λ (x : ℕ). not (eqb (bit_and h x) 0)) (one_shl c w l) ∙ ap not (and_pow_test h c) ∙ twice (has h c)
  where
    twice : (b : Bool) → not (not b) ≡ b
    twice true = refl
    twice false = refl

pub shl_in : (w h c : ℕ) → c < w → has h c ≡ false → bit_or h ((1 * 2 ^ c) % 2 ^ w) ≡ h + 2 ^ c
shl_in w h c l e = ap (bit_or h) (one_shl c w l) ∙ or_pow_new h c e

pub shl_out : (w h c : ℕ) → c < w → has h c ≡ true → bit_xor h ((1 * 2 ^ c) % 2 ^ w) ≡ h - 2 ^ c
shl_out w h c l e = ap (bit_xor h) (one_shl c w l) ∙ xor_pow_out h c e

digit_xor : (x y : ℕ) → x < 2 → y < 2 → eqb (bit_xor x y) 1 ≡ not (beq (eqb x 1) (eqb y 1))
digit_xor zero zero hx hy = refl
digit_xor zero (suc zero) hx hy = refl
digit_xor zero (suc (suc y)) hx hy = absurd (omega arith)
digit_xor (suc zero) zero hx hy = refl
digit_xor (suc zero) (suc zero) hx hy = refl
digit_xor (suc zero) (suc (suc y)) hx hy = absurd (omega arith)
digit_xor (suc (suc x)) y hx hy = absurd (omega arith)

pub has_xor : (a b c : ℕ) → has (bit_xor a b) c ≡ not (beq (has a c) (has b c))
unfolding has
has_xor a b c =
    ap (λ (x : ℕ). eqb (x % 2) 1) (xor_shr a b c) ∙ ap (λ (x : ℕ). eqb x 1) (xor_mod (a / 2 ^ c) (b / 2 ^ c) 1)
    ∙ digit_xor (a / 2 ^ c % 2) (b / 2 ^ c % 2) (digit (a / 2 ^ c)) (digit (b / 2 ^ c))

-- the lowest member
pub trailing_has : (k x : ℕ) → 0 < x → x < 2 ^ k → has x (count_trailing_zeros k x) ≡ true
unfolding count_trailing_zeros
trailing_has zero x p l = absurd (omega arith)
trailing_has (suc k) x p l = by (λ e. trailing_has k (x / 2) (omega arith) (let m = pow-succ' 2 k in omega arith)) (digit_cases (x % 2) (digit x))
  where
    by : (x % 2 ≡ 0 → has (x / 2) (count_trailing_zeros k (x / 2)) ≡ true) → (x % 2 ≡ 0) ⊎ (x % 2 ≡ 1) → has x (under (x % 2) (count_trailing_zeros k (x / 2))) ≡ true
    by ih (inl e) = ap (λ (d : ℕ). has x (under d (count_trailing_zeros k (x / 2)))) e ∙ has_rest x (count_trailing_zeros k (x / 2)) ∙ ih e
    by ih (inr e) = ap (λ (d : ℕ). has x (under d (count_trailing_zeros k (x / 2)))) e ∙ has_first x ∙ eq-eqb (x % 2) 1 e

pub trailing_least : (k x c : ℕ) → has x c ≡ true → c < k → count_trailing_zeros k x ≤ c
unfolding count_trailing_zeros
trailing_least zero x c h l = absurd (omega arith)
trailing_least (suc k) x zero h l = ap_le (x % 2) (odd x h)
  where
    ap_le : (y : ℕ) → y ≡ 1 → under y (count_trailing_zeros k (x / 2)) ≤ 0
    ap_le zero e = absurd (omega arith)
    ap_le (suc y) e = zero-le
trailing_least (suc k) x (suc c) h l =
    by (x % 2) (trailing_least k (x / 2) c (sym (has_rest x c) ∙ h) (omega arith))
  where
    by : (y : ℕ) → count_trailing_zeros k (x / 2) ≤ c → under y (count_trailing_zeros k (x / 2)) ≤ suc c
    by zero m = suc-le-suc m
    by (suc y) m = zero-le

-- ---- counts

pub ones_zero : ones 0 ≡ 0
unfolding ones
ones_zero = refl

pub ones_sub : (x k : ℕ) → has x k ≡ true → suc (ones (x - 2 ^ k)) ≡ ones x
ones_sub x zero h =
    let o = odd x h in let l = less_one x h in let s = ones_step x in let t = ones_step (x - 1) in
    let e : ones ((x - 1) / 2) ≡ ones (x / 2) = ap ones l.0 in
    omega arith
ones_sub x (suc k) h =
    let l = less_pow x k h in let s = ones_step x in let t = ones_step (x - 2 ^ suc k) in
    let e : ones ((x - 2 ^ suc k) / 2) ≡ ones (x / 2 - 2 ^ k) = ap ones l.0 in
    let ih = ones_sub (x / 2) k (sym (has_rest x k) ∙ h) in
    omega arith

pub ones_pos : (x c : ℕ) → has x c ≡ true → 0 < ones x
ones_pos x c h = let e = ones_sub x c h in omega arith

pub ones_some : (x : ℕ) → 0 < ones x → (c : ℕ) × (has x c ≡ true)
ones_some zero h = let z = ones_zero in absurd (omega arith)
ones_some (suc x) h = some_digit (suc x) (omega arith)

pub ones_none : (x : ℕ) → ones x ≡ 0 → x ≡ 0
ones_none x h = by (cases_lt 0 x)
  where
    by : (0 < x) ⊎ (x ≤ 0) → x ≡ 0
    by (inl l) = let s = some_digit x l in let p = ones_pos x s.0 s.1 in absurd (omega arith)
    by (inr l) = omega arith

-- a member of either is counted once, and one of both twice
pub ones_or_and : (a b : ℕ) → ones (bit_or a b) + ones (bit_and a b) ≡ ones a + ones b
ones_or_and =
    bin_ind (λ (a : ℕ). (b : ℕ) → ones (bit_or a b) + ones (bit_and a b) ≡ ones a + ones b) base step
  where
    base : (b : ℕ) → ones b + ones 0 ≡ ones 0 + ones b
    base b = omega arith

    step : (a : ℕ) → ((b : ℕ) → ones (bit_or (a / 2) b) + ones (bit_and (a / 2) b) ≡ ones (a / 2) + ones b)
        → (b : ℕ) → ones (bit_or a b) + ones (bit_and a b) ≡ ones a + ones b
    step a ih b =
        let o = or_step a b in let n = and_step a b in
        let so = ones_step (bit_or a b) in let sn = ones_step (bit_and a b) in let sa = ones_step a in let sb = ones_step b in
        let ho : bit_or a b / 2 ≡ bit_or (a / 2) (b / 2) = omega arith in
        let hn : bit_and a b / 2 ≡ bit_and (a / 2) (b / 2) = omega arith in
        let eo : ones (bit_or a b / 2) ≡ ones (bit_or (a / 2) (b / 2)) = ap ones ho in
        let en : ones (bit_and a b / 2) ≡ ones (bit_and (a / 2) (b / 2)) = ap ones hn in
        let i = ih (b / 2) in
        omega arith

pub ones_or : (a b : ℕ) → bit_and a b ≡ 0 → ones (bit_or a b) ≡ ones a + ones b
ones_or a b e =
    let s = ones_or_and a b in let z = ones_zero in let n : ones (bit_and a b) ≡ ones 0 = ap ones e in
    omega arith

pub ones_pow : (k : ℕ) → ones (2 ^ k) ≡ 1
ones_pow k =
    let e = ones_sub (2 ^ k) k (pow_has k) in let z = ones_zero in
    let n : 2 ^ k - 2 ^ k ≡ 0 = omega arith in
    let m : ones (2 ^ k - 2 ^ k) ≡ ones 0 = ap ones n in
    omega arith

pub ones_add : (i y : ℕ) → has y i ≡ false → ones (2 ^ i + y) ≡ suc (ones y)
ones_add i y e =
    let a = apart (2 ^ i) y (λ c p q. both_ways (has y i) e (subst (λ (x : ℕ). has y x ≡ true) (eqb-true c i (sym (has_pow i c) ∙ p)) q)) in
    let o = ones_or (2 ^ i) y a in let p = ones_pow i in
    let f : ones (bit_or (2 ^ i) y) ≡ ones (2 ^ i + y) = ap ones (or_disjoint (2 ^ i) y a) in
    omega arith

-- ---- the laws of a distributive lattice

or_test_assoc : (x y z : Bool) → ((x || y) || z) ≡ (x || (y || z))
or_test_assoc true y z = refl
or_test_assoc false y z = refl

test_absorbs_or : (x y : Bool) → (x || (x && y)) ≡ x
test_absorbs_or true y = refl
test_absorbs_or false y = refl

test_absorbs_and : (x y : Bool) → (x && (x || y)) ≡ x
test_absorbs_and true y = refl
test_absorbs_and false y = refl

test_distributes : (x y z : Bool) → (x && (y || z)) ≡ ((x && y) || (x && z))
test_distributes true y z = refl
test_distributes false y z = refl

pub and_assoc : (a b c : ℕ) → bit_and (bit_and a b) c ≡ bit_and a (bit_and b c)
and_assoc a b c =
    has_ext (bit_and (bit_and a b) c) (bit_and a (bit_and b c))
    (λ i. simp has_and (sym (swap_and (has a i) (has b i) (has c i))))

pub or_assoc : (a b c : ℕ) → bit_or (bit_or a b) c ≡ bit_or a (bit_or b c)
or_assoc a b c =
    has_ext (bit_or (bit_or a b) c) (bit_or a (bit_or b c)) (λ i. simp has_or (or_test_assoc (has a i) (has b i) (has c i)))

pub or_absorbs : (a b : ℕ) → bit_or a (bit_and a b) ≡ a
or_absorbs a b = has_ext (bit_or a (bit_and a b)) a (λ i. simp (has_or, has_and) (test_absorbs_or (has a i) (has b i)))

pub and_absorbs : (a b : ℕ) → bit_and a (bit_or a b) ≡ a
and_absorbs a b = has_ext (bit_and a (bit_or a b)) a (λ i. simp (has_or, has_and) (test_absorbs_and (has a i) (has b i)))

pub and_or_distributes : (a b c : ℕ) → bit_and a (bit_or b c) ≡ bit_or (bit_and a b) (bit_and a c)
and_or_distributes a b c =
    has_ext (bit_and a (bit_or b c)) (bit_or (bit_and a b) (bit_and a c))
    (λ i. simp (has_or, has_and) (test_distributes (has a i) (has b i) (has c i)))

-- sets with no member in common with several others
pub apart_or : (h a b : ℕ) → bit_and h a ≡ 0 → bit_and h b ≡ 0 → bit_and h (bit_or a b) ≡ 0
apart_or h a b p q = and_or_distributes h a b ∙ (λ i. bit_or (p i) (q i))

pub or_apart_l : (h a b : ℕ) → bit_and h (bit_or a b) ≡ 0 → bit_and h a ≡ 0
or_apart_l h a b e = apart h a (λ c p q. both_ways (has (bit_or a b) c) (apart_out h (bit_or a b) c e p) (or_has_l a b c q))

pub or_apart_r : (h a b : ℕ) → bit_and h (bit_or a b) ≡ 0 → bit_and h b ≡ 0
or_apart_r h a b e = apart h b (λ c p q. both_ways (has (bit_or a b) c) (apart_out h (bit_or a b) c e p) (or_has_r a b c q))

-- `all` on the left, of what is below it
pub and_all : (k a : ℕ) → a < 2 ^ k → bit_and (2 ^ k - 1) a ≡ a
and_all k a h =
    part_both (bit_and (2 ^ k - 1) a) a (λ c e. and_has_r (2 ^ k - 1) a c e)
    (λ c e. and_has (2 ^ k - 1) a c (has_all k c (has_below k a c h e)) e)

-- ---- complements

-- the complement in the numbers below k
pub has_without : (k x c : ℕ) → x < 2 ^ k → c < k → has (2 ^ k - 1 - x) c ≡ not (has x c)
has_without zero x c h l = absurd (omega arith)
has_without (suc k) x zero h l =
    let e = pow-succ' 2 k in let p = pow_pos k in
    let m : (2 ^ suc k - 1 - x) % 2 ≡ 1 - x % 2 = omega arith in
    has_first (2 ^ suc k - 1 - x) ∙ ap (λ (y : ℕ). eqb y 1) m ∙ flip (x % 2) (digit x) ∙ ap not (sym (has_first x))
  where
    flip : (y : ℕ) → y < 2 → eqb (1 - y) 1 ≡ not (eqb y 1)
    flip zero h = refl
    flip (suc zero) h = refl
    flip (suc (suc y)) h = absurd (omega arith)
has_without (suc k) x (suc c) h l =
    let e = pow-succ' 2 k in let p = pow_pos k in
    let m : (2 ^ suc k - 1 - x) / 2 ≡ 2 ^ k - 1 - x / 2 = omega arith in
    has_rest (2 ^ suc k - 1 - x) c ∙ ap (λ (y : ℕ). has y c) m ∙ has_without k (x / 2) c (omega arith) (omega arith)
    ∙ ap not (sym (has_rest x c))

-- a part that is not all lacks some member
pub lacks : (k s t : ℕ) → t < 2 ^ k → Part s t → (s ≡ t → ⊥) → (i : ℕ) × (has t i ≡ true) × (has s i ≡ false)
lacks k s t l p n = by (cases_lt 0 (bit_and t (2 ^ k - 1 - s)))
  where
    ls : s < 2 ^ k
    ls = let m = part_le s t p in omega arith

    by : (0 < bit_and t (2 ^ k - 1 - s)) ⊎ (bit_and t (2 ^ k - 1 - s) ≤ 0) → (i : ℕ) × (has t i ≡ true) × (has s i ≡ false)
    by (inl q) =
        let d = some_digit (bit_and t (2 ^ k - 1 - s)) q in
        let h = and_has_l t (2 ^ k - 1 - s) d.0 d.1 in
        (d.0, h, not-true (has s d.0) (sym (has_without k s d.0 ls (has_below k t d.0 l h)) ∙ and_has_r t (2 ^ k - 1 - s) d.0 d.1))
    by (inr q) = absurd (n (part_both s t p (λ c h. not-false (has s c) (inside c h))))
      where
        none : bit_and t (2 ^ k - 1 - s) ≡ 0
        none = omega arith

        inside : (c : ℕ) → has t c ≡ true → not (has s c) ≡ false
        inside c h = sym (has_without k s c ls (has_below k t c l h)) ∙ apart_out t (2 ^ k - 1 - s) c none h
