-- The forms that code on a word of bits writes, by their members.
use Rattle.std.proofs.Common.{◌≡◌, ℕ, ◌-◌, ◌*◌, ◌%◌, ◌^◌, ◌<◌, ◌≤◌, Bool, true, false, not, ◌&&◌, ◌||◌, eqb, ltb, ◌⊎◌, sym, refl, ap, ◌∙◌, inl, inr, arith, bit_and, bit_or}
use lib.Pow.{pow-lt}
use Rattle.std.proofs.lemmas.Bool.{ne_eqb, lt-ltb, le-ltb, cases_lt, cases_eq}
use Rattle.std.proofs.lemmas.Nat.{one_shl, or_lt}
use Rattle.bitsets.specs.Sets.{has}
use Rattle.bitsets.proofs.Digits.{has_and, has_or, has_pow, has_high, has_without}

and_true : (b : Bool) → (b && true) ≡ b
and_true true = refl
and_true false = refl

and_false : (b : Bool) → (b && false) ≡ false
and_false true = refl
and_false false = refl

or_false : (b : Bool) → (b || false) ≡ b
or_false true = refl
or_false false = refl

-- a member put in by `| (1 << m)`, in a word of w bits
pub has_insert : (w s m k : ℕ) → m < w → has (bit_or s ((1 * 2 ^ m) % 2 ^ w)) k ≡ (has s k || (eqb k m && ltb k w))
has_insert w s m k l =
    ap (λ (x : ℕ). has (bit_or s x) k) (one_shl m w l) ∙ has_or s (2 ^ m) k
    ∙ ap (λ (b : Bool). has s k || b) (has_pow m k ∙ by (cases_eq k m))
  where
    by : (k ≡ m) ⊎ (k ≡ m → ⊥) → eqb k m ≡ (eqb k m && ltb k w)
    by (inl e) = sym (and_true (eqb k m)) ∙ ap (λ (b : Bool). eqb k m && b) (sym (lt-ltb k w (omega arith)))
    by (inr n) = let e = ne_eqb k m n in e ∙ ap (λ (b : Bool). b && ltb k w) (sym e)

-- below any bound of the members
pub insert_below : (w s m n : ℕ) → m < w → s < 2 ^ n → m < n → bit_or s ((1 * 2 ^ m) % 2 ^ w) < 2 ^ n
insert_below w s m n l h b = rw (one_shl m w l) (or_lt n s (2 ^ m) h (pow-lt b))

-- a member that the word has no bit for
pub insert_past : (w s m k : ℕ) → w ≤ m → has s k ≡ (has s k || (eqb k m && ltb k w))
insert_past w s m k l = sym (ap (λ (b : Bool). has s k || b) (by (cases_eq k m)) ∙ or_false (has s k))
  where
    by : (k ≡ m) ⊎ (k ≡ m → ⊥) → (eqb k m && ltb k w) ≡ false
    by (inl e) = ap (λ (b : Bool). eqb k m && b) (le-ltb k w (omega arith)) ∙ and_false (eqb k m)
    by (inr n) = ap (λ (b : Bool). b && ltb k w) (ne_eqb k m n)

-- a member taken out by `& !(1 << m)`
pub has_remove : (w s m k : ℕ) → s < 2 ^ w → m < w → has (bit_and s (2 ^ w - 1 - (1 * 2 ^ m) % 2 ^ w)) k ≡ (has s k && not (eqb k m))
has_remove w s m k h l =
    ap (λ (x : ℕ). has (bit_and s (2 ^ w - 1 - x)) k) (one_shl m w l) ∙ has_and s (2 ^ w - 1 - 2 ^ m) k ∙ by (cases_lt k w)
  where
    small : 2 ^ m < 2 ^ w
    small = pow-lt l

    by : (k < w) ⊎ (w ≤ k) → (has s k && has (2 ^ w - 1 - 2 ^ m) k) ≡ (has s k && not (eqb k m))
    by (inl i) = ap (λ (b : Bool). has s k && b) (has_without w (2 ^ m) k small i ∙ ap not (has_pow m k))
    by (inr i) =
        let e = has_high w s k h i in
        ap (λ (b : Bool). b && has (2 ^ w - 1 - 2 ^ m) k) e ∙ ap (λ (b : Bool). b && not (eqb k m)) (sym e)

-- a number past the word is no member
pub remove_past : (w s m k : ℕ) → s < 2 ^ w → w ≤ m → has s k ≡ (has s k && not (eqb k m))
remove_past w s m k h l = by (cases_eq k m)
  where
    by : (k ≡ m) ⊎ (k ≡ m → ⊥) → has s k ≡ (has s k && not (eqb k m))
    by (inl e) = let f = has_high w s k h (omega arith) in f ∙ ap (λ (b : Bool). b && not (eqb k m)) (sym f)
    by (inr n) = sym (ap (λ (b : Bool). has s k && not b) (ne_eqb k m n) ∙ and_true (has s k))

-- ---- in a word of 64 bits, as goals print it

pub insert_has : (s m k : ℕ) → m < 64 → has (bit_or s ((1 * 2 ^ m) % 18446744073709551616)) k ≡ (has s k || (eqb k m && ltb k 64))
insert_has s m k l = has_insert 64 s m k l

pub insert_small : (s m n : ℕ) → m < 64 → s < 2 ^ n → m < n → bit_or s ((1 * 2 ^ m) % 18446744073709551616) < 2 ^ n
insert_small s m n l h b = insert_below 64 s m n l h b

pub remove_has : (s m k : ℕ) → s < 2 ^ 64 → m < 64 → has (bit_and s (18446744073709551615 - (1 * 2 ^ m) % 18446744073709551616)) k ≡ (has s k && not (eqb k m))
remove_has s m k h l = has_remove 64 s m k h l

pub remove_none : (s m k : ℕ) → s < 2 ^ 64 → 64 ≤ m → has s k ≡ (has s k && not (eqb k m))
remove_none s m k h l = remove_past 64 s m k h l
