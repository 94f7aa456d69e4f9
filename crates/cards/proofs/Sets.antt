-- The cards of a suit by their codes, and a card put into a set, as numbers.
use Rattle.std.proofs.Common.{◌≡◌, ℕ, ◌+◌, ◌-◌, ◌*◌, ◌/◌, ◌%◌, ◌^◌, ◌<◌, Bool, true, ◌||◌, eqb, sym, ap, ◌∙◌, arith, lit<, bit_or}
use Rattle.std.proofs.lemmas.Bool.{eqb-true, eq-eqb}
use Rattle.std.proofs.lemmas.Nat.{shl_whole, or_lt}
use Rattle.bitsets.specs.Sets.{has}
use Rattle.bitsets.proofs.Digits.{same_test, has_or, has_pow, has_ext, below_pow, has_shifted, shifted_has, has_all, all_has}
use Rattle.cards.specs.Codes.{suit_cards}

-- the cards of a suit: the codes whose thirteenth part is the suit's
pub has_suit : (s c : ℕ) → has (suit_cards s) c ≡ eqb (c / 13) s
has_suit s c = same_test (has (suit_cards s) c) (eqb (c / 13) s) there back
  where
    there : has (suit_cards s) c ≡ true → eqb (c / 13) s ≡ true
    there h =
        let (l, d) = shifted_has (2 ^ 13 - 1) (13 * s) c h in
        let b = all_has 13 (c - 13 * s) d in
        eq-eqb (c / 13) s (omega arith)

    back : eqb (c / 13) s ≡ true → has (suit_cards s) c ≡ true
    back h =
        let e = eqb-true (c / 13) s h in
        let q : 13 * s + (c - 13 * s) ≡ c = omega arith in
        ap (λ (x : ℕ). has (suit_cards s) x) (sym q) ∙ has_shifted (2 ^ 13 - 1) (13 * s) (c - 13 * s) ∙ has_all 13 (c - 13 * s) (omega arith)

-- as a word has them
pub suit_mask : (s : ℕ) → s < 4 → (8191 * 2 ^ (13 * s)) % 2 ^ 64 ≡ suit_cards s
suit_mask s l = shl_whole 8191 13 (13 * s) 64 (lit< tt) (omega arith)

pub suit_small : (s : ℕ) → s < 4 → suit_cards s < 2 ^ 52
suit_small s l =
    below_pow 52 (suit_cards s) (λ k h. let e = eqb-true (k / 13) s (sym (has_suit s k) ∙ h) in omega arith)

-- a set with one card more, as a number
pub with_value : (s r c : ℕ) → ((k : ℕ) → has r k ≡ (has s k || eqb k c)) → r ≡ bit_or s (2 ^ c)
with_value s r c f =
    has_ext r (bit_or s (2 ^ c)) (λ k. f k ∙ ap (λ (b : Bool). has s k || b) (sym (has_pow c k)) ∙ sym (has_or s (2 ^ c) k))

pub union_small : (a b : ℕ) → a < 4503599627370496 → b < 4503599627370496 → bit_or a b < 4503599627370496
union_small a b f g = or_lt 52 a b f g
