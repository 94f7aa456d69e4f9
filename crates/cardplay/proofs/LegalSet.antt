-- The legal cards as a set: the list of them is its members, with their number, the place of a card, and the card at a place.
use Rattle.std.proofs.Common.{◌≡◌, ℕ, zero, suc, ◌-◌, ◌^◌, ◌<◌, ◌≤◌, Bool, true, false, cond, ◌&&◌, ◌||◌, eqb, List, [], ◌∷◌, length, get_or, sym, refl, ap, ◌∙◌, subst, arith, lit≤}
use lib.Bits.{bit_and}
use lib.Count.{ones}
use Rattle.bitsets.specs.Sets.{has, members_from, members}
use Rattle.bitsets.proofs.Digits.{has_and, has_or, has_zero, has_below, below_pow}
use Rattle.bitsets.proofs.Members.{members_length, members_place, members_at}
use Rattle.cards.proofs.Sets.{has_suit}
use Rattle.cardplay.specs.Cards.{Layout, Dealt, Play, suit, of_suit, follows, may_play, held, legal_in, some_legal, legal, some_hands, legal_set, legal_from, legal_cards}
use Rattle.cardplay.proofs.Reach.{Good, legal_unplayed}

and_true : (b : Bool) → b ≡ (b && true)
and_true true = refl
and_true false = refl

or_true : (b : Bool) → true ≡ (b || true)
or_true true = refl
or_true false = refl

or_false : (b : Bool) → b ≡ (b || false)
or_false true = refl
or_false false = refl

pub has_may_play : (h : ℕ) (t : List ℕ) (c : ℕ) → has (may_play h t) c ≡ (has h c && follows h t c)
has_may_play h [] c = and_true (has h c)
has_may_play h (led ∷ cs) c = by (eqb (bit_and h (of_suit (suit led))) 0)
  where
    by : (b : Bool) → has (cond b h (bit_and h (of_suit (suit led)))) c ≡ (has h c && (eqb (suit c) (suit led) || b))
    by true = and_true (has h c) ∙ ap (λ (b : Bool). has h c && b) (or_true (eqb (suit c) (suit led)))
    by false =
        has_and h (of_suit (suit led)) c
        ∙ ap (λ (b : Bool). has h c && b) (has_suit (suit led) c ∙ or_false (eqb (suit c) (suit led)))

has_if : (b : Bool) (x c : ℕ) → has (cond b x 0) c ≡ (b && has x c)
has_if true x c = refl
has_if false x c = has_zero c

module _ (d : Dealt) (p : Play) where
  has_hands : (ls : List Layout) (i c : ℕ) → has (some_hands d p ls i) c ≡ some_legal d p ls i c
  has_hands [] i c = has_zero c
  has_hands (l ∷ ls) i c =
      has_or (cond (has p.live i) (may_play (held d p l) p.trick) 0) (some_hands d p ls (suc i)) c
      ∙ ap (λ (b : Bool). b || has (some_hands d p ls (suc i)) c)
      (has_if (has p.live i) (may_play (held d p l) p.trick) c
      ∙ ap (λ (b : Bool). has p.live i && b) (has_may_play (held d p l) p.trick c))
      ∙ ap (λ (b : Bool). (has p.live i && legal_in d p l c) || b) (has_hands ls (suc i) c)

  pub has_legal_set : (c : ℕ) → has (legal_set d p) c ≡ legal d p c
  has_legal_set c = has_hands d.layouts 0 c

  listed_as : (k : ℕ) → k ≤ 52 → legal_from d p k ≡ members_from (legal_set d p) (52 - k) k
  listed_as zero l = refl
  listed_as (suc k) l =
      let a : 51 - k ≡ 52 - suc k = omega arith in
      let b : 52 - k ≡ suc (52 - suc k) = omega arith in
      let ih = listed_as k (omega arith) ∙ ap (λ (i : ℕ). members_from (legal_set d p) i k) b in
      let t : legal d p (51 - k) ≡ has (legal_set d p) (52 - suc k) = ap (legal d p) a ∙ sym (has_legal_set (52 - suc k)) in
      λ i. cond (t i) (a i ∷ ih i) (ih i)

  -- the children, in order
  pub cards_members : legal_cards d p ≡ members 52 (legal_set d p)
  unfolding legal_cards members
  cards_members = listed_as 52 (lit≤ tt)

  module _ (g : Good d p) where
    pub legal_set_small : legal_set d p < 2 ^ 52
    legal_set_small =
        below_pow 52 (legal_set d p)
        (λ c h. has_below 52 p.unplayed c g.small (legal_unplayed d p c (sym (has_legal_set c) ∙ h)))

    -- their number, a card's place, and a place's card
    pub cards_number : length (legal_cards d p) ≡ ones (legal_set d p)
    cards_number = ap length cards_members ∙ members_length 52 (legal_set d p) legal_set_small

    pub card_at_place : (c : ℕ) → legal d p c ≡ true → get_or (legal_cards d p) (ones (bit_and (legal_set d p) (2 ^ c - 1))) 0 ≡ c
    card_at_place c h =
        let b = has_legal_set c ∙ h in
        ap (λ (xs : List ℕ). get_or xs (ones (bit_and (legal_set d p) (2 ^ c - 1))) 0) cards_members
        ∙ members_place 52 (legal_set d p) c b (has_below 52 (legal_set d p) c legal_set_small b)

    pub place_of_card : (n : ℕ) → n < length (legal_cards d p)
        → (legal d p (get_or (legal_cards d p) n 0) ≡ true) × (ones (bit_and (legal_set d p) (2 ^ get_or (legal_cards d p) n 0 - 1)) ≡ n)
    place_of_card n h =
        let (c, l, e, b, o) = members_at 52 (legal_set d p) n (subst (λ (xs : List ℕ). n < length xs) cards_members h) in
        let q : c ≡ get_or (legal_cards d p) n 0 = sym (ap (λ (xs : List ℕ). get_or xs n 0) cards_members ∙ e) in (
          subst (λ (x : ℕ). legal d p x ≡ true) q (sym (has_legal_set c) ∙ b),
          subst (λ (x : ℕ). ones (bit_and (legal_set d p) (2 ^ x - 1)) ≡ n) q o,
        )
