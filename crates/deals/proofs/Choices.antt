-- The legal cards as a list and as a set.
use Rattle.std.proofs.Common.{◌≡◌, ℕ, zero, suc, ◌<◌, Bool, true, false, List, [], ◌∷◌, length, get_or, Option, sym, refl, ap, ◌∙◌, subst, inl, inr, arith, MatchOption}
use Rattle.bitsets.specs.Sets.{has, members}
use Rattle.cardplay.specs.Cards.{Dealt, Play, legal, legal_set, legal_cards}
use Rattle.cardplay.proofs.Legal.{In, cards_legal}
use Rattle.cardplay.proofs.LegalSet.{has_legal_set, cards_members}

in_at : (cs : List ℕ) (n : ℕ) → n < length cs → In (get_or cs n 0) cs
in_at [] n l = absurd (omega arith)
in_at (c ∷ cs) zero l = inl refl
in_at (c ∷ cs) (suc n) l = inr (in_at cs n (omega arith))

module _ (d : Dealt) (p : Play) where
  -- the legal cards are the members of the set
  pub listed_members : (x : ℕ) → x ≡ legal_set d p → members 52 x ≡ legal_cards d p
  listed_members x e = ap (members 52) e ∙ sym (cards_members d p)

  -- a card at a place is legal
  pub legal_at : (n c : ℕ) → n < length (legal_cards d p) → get_or (legal_cards d p) n 0 ≡ c → legal d p c ≡ true
  legal_at n c l e = cards_legal d p c (subst (λ (x : ℕ). In x (legal_cards d p)) e (in_at (legal_cards d p) n l))

  -- a card has a place in the list where it has one in the set
  pub placed : (x c : ℕ) (r : Option ℕ) → x ≡ legal_set d p
      → MatchOption r (has x c ≡ false) (λ n. (n < length (members 52 x)) × (get_or (members 52 x) n 0 ≡ c))
      → MatchOption r (legal d p c ≡ false) (λ n. (n < length (legal_cards d p)) × (get_or (legal_cards d p) n 0 ≡ c))
  placed x c r e h =
      subst (λ (cs : List ℕ). MatchOption r (legal d p c ≡ false) (λ n. (n < length cs) × (get_or cs n 0 ≡ c))) (listed_members x e)
      (subst (λ (b : Bool). MatchOption r (b ≡ false) (λ n. (n < length (members 52 x)) × (get_or (members 52 x) n 0 ≡ c)))
      (ap (λ (y : ℕ). has y c) e ∙ has_legal_set d p c) h)
