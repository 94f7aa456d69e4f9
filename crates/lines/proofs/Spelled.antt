-- Reading a hand card by card.
use Rattle.std.proofs.Common.{◌≡◌, ℕ, ◌+◌, ◌-◌, ◌^◌, ◌≤◌, ltb, true, false, cond, List, [], ◌∷◌, length, get_or, take, drop, Some, None, Option, IfSome, sym, ap, ◌∙◌, bit_or, arith, rules}
use Rattle.std.proofs.lemmas.List.{take_all}
use Rattle.std.proofs.lemmas.Bool.{cond-true, cond-false}
use Rattle.lines.specs.Spelling.{card_of, with_card, cards_from}

-- the least code of a next card
abbrev pub low_after : Option ℕ → ℕ
low_after None = 0
low_after (Some c) = c + 1

-- a code that is not at or below the last one is at least that
pub in_order : (c : ℕ) (last : Option ℕ) → IfSome last (λ d. ltb d c ≡ true) → ltb c (low_after last) ≡ false
in_order c None h = search rules
in_order c (Some d) h = search rules

module _ (low cards : ℕ) (h : Option ℕ) (c : ℕ) where
  one_card : (o : Option ℕ) (k : ℕ → Option ℕ) → with_card low o k ≡ h → o ≡ Some c → cond (ltb c low) None (k c) ≡ h
  one_card o k e q = ap (λ (x : Option ℕ). with_card low x k) (sym q) ∙ e

  -- past one card, which the set of those so far now has
  pub more : (now : ℕ) (rest : List ℕ) → 2 ≤ length rest → cards_from low cards rest ≡ h
      → card_of (get_or rest 0 0) (get_or rest 1 0) ≡ Some c → ltb c low ≡ false → now ≡ bit_or cards (2 ^ c)
      → cards_from (c + 1) now (take (length rest - 2) (drop 2 rest)) ≡ h
  more now [] len e q t w = absurd (omega arith)
  more now (a ∷ []) len e q t w = absurd (omega arith)
  more now (a ∷ b ∷ bs) len e q t w =
      let n : length bs ≤ length (a ∷ b ∷ bs) - 2 = omega arith in
      rw (w, take_all (length (a ∷ b ∷ bs) - 2) bs n) (sym (cond-false (ltb c low) None _ t) ∙ one_card (card_of a b) _ e q)

  -- a card that does not come after the last one ends the reading
  pub ends : (rest : List ℕ) → 2 ≤ length rest → cards_from low cards rest ≡ h
      → card_of (get_or rest 0 0) (get_or rest 1 0) ≡ Some c → ltb c low ≡ true → None ≡ h
  ends [] len e q t = absurd (omega arith)
  ends (a ∷ []) len e q t = absurd (omega arith)
  ends (a ∷ b ∷ bs) len e q t =
      sym (cond-true (ltb c low) None (cards_from (c + 1) (bit_or cards (2 ^ c)) bs) t) ∙ one_card (card_of a b) _ e q
