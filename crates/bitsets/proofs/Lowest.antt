-- The lowest member of a set taken out by `x & (x - 1)`: the first of its members in rising order.
use Rattle.std.proofs.Common.{◌≡◌, ℕ, zero, suc, ◌+◌, ◌-◌, ◌/◌, ◌%◌, ◌^◌, ◌<◌, ◌≤◌, Bool, true, false, cond, not, ◌&&◌, eqb, ◌⊎◌, List, [], ◌∷◌, length, get_or, drop, sym, refl, ap, ◌∙◌, inl, inr, zero-le, add-one, arith, lit<, bit_and}
use native.Mathlib.Nat.{pow-succ'}
use lib.Bits.{and_step, and_self}
use lib.Count.{count_trailing_zeros, under}
use Rattle.std.proofs.lemmas.Bool.{eq-eqb, ne_eqb, cases_eq, cases_Bool, cond-true, cond-false}
use Rattle.bitsets.specs.Sets.{has, members_from, members}
use Rattle.bitsets.proofs.Members.{past_from}
use Rattle.bitsets.proofs.Digits.{has_below, has_sub, trailing_has, trailing_least}

even_half : (x : ℕ) → 0 < x → x % 2 ≡ 0 → ((x - 1) / 2 ≡ x / 2 - 1) × (0 < x / 2)
even_half x p e = (omega arith, omega arith)

pub lowest_out : (k x : ℕ) → 0 < x → x < 2 ^ k → bit_and x (x - 1) ≡ x - 2 ^ count_trailing_zeros k x
unfolding count_trailing_zeros
lowest_out zero x p l = absurd (omega arith)
lowest_out (suc k) x p l = by (λ q. lowest_out k (x / 2) q (let m = pow-succ' 2 k in omega arith)) (x % 2) refl
  where
    by : (0 < x / 2 → bit_and (x / 2) (x / 2 - 1) ≡ x / 2 - 2 ^ count_trailing_zeros k (x / 2))
        → (d : ℕ) → x % 2 ≡ d → bit_and x (x - 1) ≡ x - 2 ^ under d (count_trailing_zeros k (x / 2))
    by ih zero e =
        let h = even_half x p e in let s = and_step x (x - 1) in
        let q : bit_and (x / 2) ((x - 1) / 2) ≡ x / 2 - 2 ^ count_trailing_zeros k (x / 2) = ap (bit_and (x / 2)) h.0 ∙ ih h.1 in
        let w = pow-succ' 2 (count_trailing_zeros k (x / 2)) in
        omega arith
    by ih (suc d) e =
        let s = and_step x (x - 1) in
        let o : (x - 1) / 2 ≡ x / 2 = omega arith in
        let q : bit_and (x / 2) ((x - 1) / 2) ≡ x / 2 = ap (bit_and (x / 2)) o ∙ and_self (x / 2) in
        omega arith

-- sets that agree from i on list the same members there
same_from : (x y i k : ℕ) → ((c : ℕ) → i ≤ c → has x c ≡ has y c) → members_from x i k ≡ members_from y i k
same_from x y i zero f = refl
same_from x y i (suc k) f =
    let t = f i (omega arith) in let r = same_from x y (suc i) k (λ c l. f c (omega arith)) in
    λ j. cond (t j) (i ∷ r j) (r j)

-- y is x without its lowest member t
module _ (x y t : ℕ) (least : (c : ℕ) → has x c ≡ true → t ≤ c) (member : has x t ≡ true) (rest : (c : ℕ) → has y c ≡ (has x c && not (eqb c t))) where
  other : (c : ℕ) → (c ≡ t → ⊥) → has x c ≡ has y c
  other c n = sym (rest c ∙ ap (λ (b : Bool). has x c && not b) (ne_eqb c t n) ∙ right (has x c))
    where
      right : (b : Bool) → (b && true) ≡ b
      right true = refl
      right false = refl

  gone : has y t ≡ false
  gone = rest t ∙ ap (λ (b : Bool). has x t && not b) (eq-eqb t t refl) ∙ ap (λ (b : Bool). b && false) member

  first_from : (i k : ℕ) → i ≤ t → t < i + k → members_from x i k ≡ t ∷ members_from y i k
  first_from i zero l m = absurd (omega arith)
  first_from i (suc k) l m = by (first_from (suc i) k) (cases_eq i t)
    where
      by : (suc i ≤ t → t < suc i + k → members_from x (suc i) k ≡ t ∷ members_from y (suc i) k)
          → (i ≡ t) ⊎ (i ≡ t → ⊥) → members_from x i (suc k) ≡ t ∷ members_from y i (suc k)
      by ih (inl e) =
          cond-true (has x i) (i ∷ members_from x (suc i) k) (members_from x (suc i) k) (ap (has x) e ∙ member)
          ∙ (λ j. e j ∷ same_from x y (suc i) k (λ c h. other c (λ q. omega arith)) j)
          ∙ ap (λ (r : List ℕ). t ∷ r) (sym (cond-false (has y i) (i ∷ members_from y (suc i) k) (members_from y (suc i) k) (ap (has y) e ∙ gone)))
      by ih (inr n) =
          let a = below_least i (omega arith) in
          cond-false (has x i) (i ∷ members_from x (suc i) k) (members_from x (suc i) k) a
          ∙ ih (omega arith) (omega arith)
          ∙ ap (λ (r : List ℕ). t ∷ r) (sym (cond-false (has y i) (i ∷ members_from y (suc i) k) (members_from y (suc i) k) (sym (other i n) ∙ a)))
        where
          below_least : (c : ℕ) → c < t → has x c ≡ false
          below_least c h = elim (cases_Bool (has x c)) [ inl q ↦ absurd (let w = least c q in omega arith) | inr q ↦ q ]

-- the lowest member, and the list of the others
pub lowest_first : (k x : ℕ) → 0 < x → x < 2 ^ k → members k x ≡ count_trailing_zeros k x ∷ members k (bit_and x (x - 1))
unfolding members
lowest_first k x p l =
    first_from x (bit_and x (x - 1)) (count_trailing_zeros k x) (λ c h. trailing_least k x c h (has_below k x c l h)) (trailing_has k x p l)
    (λ c. ap (λ (n : ℕ). has n c) (lowest_out k x p l) ∙ has_sub x (count_trailing_zeros k x) c (trailing_has k x p l))
    0 k zero-le (let b = has_below k x (count_trailing_zeros k x) l (trailing_has k x p l) in omega arith)

pub none_members : (k : ℕ) → members k 0 ≡ []
unfolding members
none_members k = past_from 0 0 k (lit< tt)

-- ---- going through the members: `rest` has those from place p on

-- one place further
pub pass : (k x all p : ℕ) → 0 < x → x < 2 ^ k → members k x ≡ drop p (members k all) → members k (bit_and x (x - 1)) ≡ drop (p + 1) (members k all)
pass k x all p q l e = later (members k all) p (count_trailing_zeros k x) (members k (bit_and x (x - 1))) (sym e ∙ lowest_first k x q l)
  where
    later : (xs : List ℕ) (p t : ℕ) (ys : List ℕ) → drop p xs ≡ t ∷ ys → ys ≡ drop (p + 1) xs
    later xs p t ys e = rw add-one (go xs p t ys e)
      where
        go : (xs : List ℕ) (p t : ℕ) (ys : List ℕ) → drop p xs ≡ t ∷ ys → ys ≡ drop (suc p) xs
        go [] zero t ys e = cc
        go [] (suc p) t ys e = cc
        go (x ∷ xs) zero t ys e = cc
        go (x ∷ xs) (suc p) t ys e = go xs p t ys e

-- none is left
pub passed_all : (k all p : ℕ) → members k 0 ≡ drop p (members k all) → length (members k all) ≤ p
passed_all k all p e = short (members k all) p (sym e ∙ none_members k)
  where
    short : (xs : List ℕ) (p : ℕ) → drop p xs ≡ [] → length xs ≤ p
    short [] p e = zero-le
    short (x ∷ xs) zero e = let z : ◌≡◌ {A = ℕ} 0 1 = cc in absurd (omega arith)
    short (x ∷ xs) (suc p) e = let h = short xs p e in omega arith

-- the next one
pub at_place : (k x all p : ℕ) → 0 < x → x < 2 ^ k → members k x ≡ drop p (members k all)
    → (p < length (members k all)) × (get_or (members k all) p 0 ≡ count_trailing_zeros k x)
at_place k x all p q l e = next (members k all) p (count_trailing_zeros k x) (members k (bit_and x (x - 1))) (sym e ∙ lowest_first k x q l)
  where
    next : (xs : List ℕ) (p t : ℕ) (ys : List ℕ) → drop p xs ≡ t ∷ ys → (p < length xs) × (get_or xs p 0 ≡ t)
    next [] zero t ys e = let z : ◌≡◌ {A = ℕ} 0 1 = cc in absurd (omega arith)
    next [] (suc p) t ys e = let z : ◌≡◌ {A = ℕ} 0 1 = cc in absurd (omega arith)
    next (x ∷ xs) zero t ys e = (omega arith, cc)
    next (x ∷ xs) (suc p) t ys e = let (a, b) = next xs p t ys e in (omega arith, b)
