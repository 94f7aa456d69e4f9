-- The members of a set as a list: their number, the place of a member, and the member at a place.
use Rattle.std.proofs.Common.{◌≡◌, ℕ, zero, suc, ◌+◌, ◌-◌, ◌*◌, ◌/◌, ◌%◌, ◌^◌, ◌<◌, ◌≤◌, true, false, cond, eqb, ◌⊎◌, List, [], ◌∷◌, length, get_or, sym, refl, ap, ◌∙◌, subst, inl, inr, suc-le-suc, zero-le, add-zero, mod-lt, suc-add, zero-add, div-one, add-one, arith, pow_pos, shr-shr, bit_and}
use native.Mathlib.Nat.{mod-one, div-eq_of_lt, pow-succ'}
use lib.Count.{ones, ones_step}
use Rattle.std.proofs.lemmas.Bool.{eqb-true, eqb-false, cases_Bool, cases_lt, cond_both, cond-true, cond-false}
use Rattle.bitsets.specs.Sets.{has, members_from, members}
use Rattle.std.proofs.lemmas.Nat.{div-add-mod', and_mask, mod-pow-add, ones_cat}
use Rattle.bitsets.proofs.Digits.{ones_zero, ones_pos, has_shr, has_high}

-- ---- the list of a set's members

-- one digit of a number shifted down
next_half : (x i : ℕ) → x / 2 ^ suc i ≡ x / 2 ^ i / 2
next_half x i = ap (λ (k : ℕ). x / 2 ^ k) (sym (add-one i)) ∙ sym (shr-shr x i 1)

digit_of : (x i : ℕ) → has x i ≡ eqb (x / 2 ^ i % 2) 1
unfolding has
digit_of x i = refl

digit_set : (x i : ℕ) → has x i ≡ true → x / 2 ^ i % 2 ≡ 1
digit_set x i h = eqb-true (x / 2 ^ i % 2) 1 (sym (digit_of x i) ∙ h)

digit_clear : (x i : ℕ) → has x i ≡ false → x / 2 ^ i % 2 ≡ 0
digit_clear x i h = let n = eqb-false (x / 2 ^ i % 2) 1 (sym (digit_of x i) ∙ h) in omega arith

-- as many as there are digits set
length_from : (x i k : ℕ) → x < 2 ^ (i + k) → length (members_from x i k) ≡ ones (x / 2 ^ i)
length_from x i zero h =
    let e : x / 2 ^ i ≡ 0 = div-eq_of_lt (subst (λ (j : ℕ). x < 2 ^ j) (add-zero i) h) in
    sym (ap ones e ∙ ones_zero)
length_from x i (suc k) h =
    let e : i + suc k ≡ suc i + k = omega arith in
    let ih = length_from x (suc i) k (subst (λ (j : ℕ). x < 2 ^ j) e h) in
    let s = ones_step (x / 2 ^ i) in
    let n : ones (x / 2 ^ suc i) ≡ ones (x / 2 ^ i / 2) = ap ones (next_half x i) in
    cond_both (has x i) (i ∷ members_from x (suc i) k) (members_from x (suc i) k) (λ (xs : List ℕ). length xs ≡ ones (x / 2 ^ i))
    (λ b. let c = digit_set x i b in omega arith) (λ b. let c = digit_clear x i b in omega arith)

pub members_length : (k x : ℕ) → x < 2 ^ k → length (members k x) ≡ ones x
unfolding members
members_length k x h =
    length_from x 0 k (subst (λ (j : ℕ). x < 2 ^ j) (sym (zero-add k)) h) ∙ ap ones (div-one x)

-- the digits below one more place
below_step : (y m : ℕ) → ones (y % 2 ^ suc m) ≡ y % 2 + ones (y / 2 % 2 ^ m)
below_step y m =
    let e : y % 2 ^ suc m ≡ y / 2 % 2 ^ m * 2 + y % 2 = ap (λ (k : ℕ). y % 2 ^ k) (sym (add-one m)) ∙ mod-pow-add y m 1 in
    let s = ones_step (y % 2 ^ suc m) in
    let a : y % 2 ^ suc m / 2 ≡ y / 2 % 2 ^ m = omega arith in
    let b : y % 2 ^ suc m % 2 ≡ y % 2 = omega arith in
    let c : ones (y % 2 ^ suc m / 2) ≡ ones (y / 2 % 2 ^ m) = ap ones a in
    omega arith

none_below : (y : ℕ) → ones (y % 2 ^ 0) ≡ 0
none_below y = ap ones (mod-one y) ∙ ones_zero

-- the place of a member: the number of members below it
place_from : (x i k m : ℕ) → has x (i + m) ≡ true → m < k → get_or (members_from x i k) (ones (x / 2 ^ i % 2 ^ m)) 0 ≡ i + m
place_from x i zero m h l = absurd (omega arith)
place_from x i (suc k) zero h l =
    let z = none_below (x / 2 ^ i) in
    let b : has x i ≡ true = subst (λ (j : ℕ). has x j ≡ true) (add-zero i) h in
    ap (λ (xs : List ℕ). get_or xs (ones (x / 2 ^ i % 2 ^ 0)) 0) (cond-true (has x i) (i ∷ members_from x (suc i) k) (members_from x (suc i) k) b)
    ∙ ap (λ (n : ℕ). get_or (i ∷ members_from x (suc i) k) n 0) z ∙ sym (add-zero i)
place_from x i (suc k) (suc m) h l =
    let e : suc i + m ≡ i + suc m = omega arith in
    let ih = place_from x (suc i) k m (subst (λ (j : ℕ). has x j ≡ true) (sym e) h) (omega arith) in
    let s = below_step (x / 2 ^ i) m in
    let n : ones (x / 2 ^ suc i % 2 ^ m) ≡ ones (x / 2 ^ i / 2 % 2 ^ m) = ap (λ (y : ℕ). ones (y % 2 ^ m)) (next_half x i) in
    cond_both (has x i) (i ∷ members_from x (suc i) k) (members_from x (suc i) k) (λ (xs : List ℕ). get_or xs (ones (x / 2 ^ i % 2 ^ suc m)) 0 ≡ i + suc m)
    (λ b. let c = digit_set x i b in
    let q : ones (x / 2 ^ i % 2 ^ suc m) ≡ suc (ones (x / 2 ^ suc i % 2 ^ m)) = omega arith in
    ap (λ (j : ℕ). get_or (i ∷ members_from x (suc i) k) j 0) q ∙ ih ∙ e)
    (λ b. let c = digit_clear x i b in
    let q : ones (x / 2 ^ i % 2 ^ suc m) ≡ ones (x / 2 ^ suc i % 2 ^ m) = omega arith in
    ap (λ (j : ℕ). get_or (members_from x (suc i) k) j 0) q ∙ ih ∙ e)

pub members_place : (k x c : ℕ) → has x c ≡ true → c < k → get_or (members k x) (ones (bit_and x (2 ^ c - 1))) 0 ≡ c
unfolding members
members_place k x c h l =
    ap (λ (n : ℕ). get_or (members_from x 0 k) (ones n) 0) (and_mask x c ∙ ap (λ (y : ℕ). y % 2 ^ c) (sym (div-one x)))
    ∙ place_from x 0 k c (subst (λ (j : ℕ). has x j ≡ true) (sym (zero-add c)) h) l ∙ zero-add c

-- the member at a place has that many members below it
member_from : (x i k n : ℕ) → n < length (members_from x i k)
    → (m : ℕ) × (m < k) × (get_or (members_from x i k) n 0 ≡ i + m) × (has x (i + m) ≡ true) × (ones (x / 2 ^ i % 2 ^ m) ≡ n)
member_from x i zero n h = absurd (omega arith)
member_from x i (suc k) n h =
    by (λ j. member_from x (suc i) k j) n (cases_Bool (has x i)) h
  where
    later : (a n : ℕ) → x / 2 ^ i % 2 ≡ a → (m : ℕ) × (m < k) × (get_or (members_from x (suc i) k) n 0 ≡ suc i + m) × (has x (suc i + m) ≡ true) × (ones (x / 2 ^ suc i % 2 ^ m) ≡ n)
        → (m : ℕ) × (m < suc k) × (get_or (members_from x (suc i) k) n 0 ≡ i + m) × (has x (i + m) ≡ true) × (ones (x / 2 ^ i % 2 ^ m) ≡ a + n)
    later a n d (m, l, e, b, o) =
        let q : suc i + m ≡ i + suc m = omega arith in
        let s = below_step (x / 2 ^ i) m in
        let t : ones (x / 2 ^ suc i % 2 ^ m) ≡ ones (x / 2 ^ i / 2 % 2 ^ m) = ap (λ (y : ℕ). ones (y % 2 ^ m)) (next_half x i) in
        (suc m, suc-le-suc l, e ∙ q, subst (λ (j : ℕ). has x j ≡ true) q b, omega arith)

    by : ((j : ℕ) → j < length (members_from x (suc i) k) → (m : ℕ) × (m < k) × (get_or (members_from x (suc i) k) j 0 ≡ suc i + m) × (has x (suc i + m) ≡ true) × (ones (x / 2 ^ suc i % 2 ^ m) ≡ j))
        → (n : ℕ) → (has x i ≡ true) ⊎ (has x i ≡ false) → n < length (members_from x i (suc k))
        → (m : ℕ) × (m < suc k) × (get_or (members_from x i (suc k)) n 0 ≡ i + m) × (has x (i + m) ≡ true) × (ones (x / 2 ^ i % 2 ^ m) ≡ n)
    by ih zero (inl b) h = (
      0,
      suc-le-suc zero-le,
      ap (λ (xs : List ℕ). get_or xs 0 0) (cond-true (has x i) (i ∷ members_from x (suc i) k) (members_from x (suc i) k) b) ∙ sym (add-zero i),
      subst (λ (j : ℕ). has x j ≡ true) (sym (add-zero i)) b,
      none_below (x / 2 ^ i),
    )
    by ih (suc n) (inl b) h =
        let c = cond-true (has x i) (i ∷ members_from x (suc i) k) (members_from x (suc i) k) b in
        let (m, l, e, p, o) = later 1 n (digit_set x i b) (ih n (let q = ap length c in omega arith)) in
        (m, l, ap (λ (xs : List ℕ). get_or xs (suc n) 0) c ∙ e, p, omega arith)
    by ih n (inr b) h =
        let c = cond-false (has x i) (i ∷ members_from x (suc i) k) (members_from x (suc i) k) b in
        let (m, l, e, p, o) = later 0 n (digit_clear x i b) (ih n (let q = ap length c in omega arith)) in
        (m, l, ap (λ (xs : List ℕ). get_or xs n 0) c ∙ e, p, omega arith)

pub members_at : (k x n : ℕ) → n < length (members k x)
    → (c : ℕ) × (c < k) × (get_or (members k x) n 0 ≡ c) × (has x c ≡ true) × (ones (bit_and x (2 ^ c - 1)) ≡ n)
unfolding members
members_at k x n h =
    let (c, l, e, b, o) = member_from x 0 k n h in (
      c,
      l,
      e ∙ zero-add c,
      subst (λ (j : ℕ). has x j ≡ true) (zero-add c) b,
      ap ones (and_mask x c ∙ ap (λ (y : ℕ). y % 2 ^ c) (sym (div-one x))) ∙ o,
    )

-- a member counts among all, and not among those below it
pub place_below : (x c : ℕ) → has x c ≡ true → ones (bit_and x (2 ^ c - 1)) < ones x
place_below x c h =
    let e : ones (bit_and x (2 ^ c - 1)) ≡ ones (x % 2 ^ c) = ap ones (and_mask x c) in
    let s = ones_cat c (x / 2 ^ c) (x % 2 ^ c) (mod-lt x (pow_pos c)) in
    let t : ones x ≡ ones (x / 2 ^ c * 2 ^ c + x % 2 ^ c) = ap ones (sym (div-add-mod' x (2 ^ c))) in
    let p = ones_pos (x / 2 ^ c) 0 (has_shr x c 0 ∙ ap (has x) (add-zero c) ∙ h) in
    omega arith

-- no member is past the last digit
pub past_from : (x i k : ℕ) → x < 2 ^ i → members_from x i k ≡ []
past_from x i zero h = refl
past_from x i (suc k) h =
    cond-false (has x i) (i ∷ members_from x (suc i) k) (members_from x (suc i) k) (has_high i x i h (omega arith))
    ∙ past_from x (suc i) k (let e = pow-succ' 2 i in omega arith)

wider_from : (x i k j : ℕ) → x < 2 ^ (i + k) → members_from x i (k + j) ≡ members_from x i k
wider_from x i zero j h =
    ap (members_from x i) (zero-add j) ∙ past_from x i j (subst (λ (n : ℕ). x < 2 ^ n) (add-zero i) h)
wider_from x i (suc k) j h =
    let e : i + suc k ≡ suc i + k = omega arith in
    let ih = wider_from x (suc i) k j (subst (λ (n : ℕ). x < 2 ^ n) e h) in
    ap (members_from x i) (suc-add k j) ∙ (λ n. cond (has x i) (i ∷ ih n) (ih n))

pub members_wider : (k j x : ℕ) → x < 2 ^ k → k ≤ j → members j x ≡ members k x
unfolding members
members_wider k j x h l =
    let e : k + (j - k) ≡ j = omega arith in
    ap (members_from x 0) (sym e) ∙ wider_from x 0 k (j - k) (subst (λ (n : ℕ). x < 2 ^ n) (sym (zero-add k)) h)

-- any bound of the members lists the same
pub members_any : (n m x : ℕ) → x < 2 ^ n → x < 2 ^ m → members n x ≡ members m x
members_any n m x a b =
    elim (cases_lt n m) [ inl l ↦ sym (members_wider n m x a (omega arith)) | inr l ↦ members_wider m n x b l ]

-- the first member c, with none from i to it
pub next_member : (m n k x i c : ℕ) → n ≡ m + suc k → c ≡ i + m → ((j : ℕ) → i ≤ j → j < c → has x j ≡ false) → has x c ≡ true
    → members_from x i n ≡ c ∷ members_from x (suc c) k
next_member zero zero k x i c e q f h = absurd (omega arith)
next_member zero (suc n) k x i c e q f h =
    let a : i ≡ c = omega arith in
    let b : n ≡ k = omega arith in
    cond-true (has x i) (i ∷ members_from x (suc i) n) (members_from x (suc i) n) (ap (has x) a ∙ h)
    ∙ (λ t. a t ∷ members_from x (suc (a t)) (b t))
next_member (suc m) zero k x i c e q f h = absurd (omega arith)
next_member (suc m) (suc n) k x i c e q f h =
    cond-false (has x i) (i ∷ members_from x (suc i) n) (members_from x (suc i) n) (f i (omega arith) (omega arith))
    ∙ next_member m n k x (suc i) c (omega arith) (omega arith) (λ j l. f j (omega arith)) h
