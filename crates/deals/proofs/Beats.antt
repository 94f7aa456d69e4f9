-- Which of two cards is the better one.
use Rattle.std.proofs.Common.{◌≡◌, ℕ, ◌<◌, eqb, ltb, Bool, true, false, List, Some, None, Option, sym, ap, ◌∙◌, arith, rules}
use Rattle.std.proofs.lemmas.Bool.{eqb-true}
use Rattle.std.proofs.lemmas.Bool.Decides.{nat_tests}
use Rattle.std.specs.Option.{option_map, option_eq}
use Rattle.std.specs.Ordering.{partial_gt}
use denote.Enum.Bare.{sameb}
use Rattle.cards.specs.contracts.card.Suit.{the_type as suit_type}
use Rattle.cards.specs.contracts.card.SuitPartialEq.TheImpl.{eq-value as suit_eq}
use Rattle.cards.specs.contracts.card.RankPartialOrd.TheImpl.{partial_cmp-value as rank_cmp}
use Rattle.cards.specs.declared.card.Card.{Card}
use Rattle.cards.specs.declared.card.Rank.{Rank}
use Rattle.cards.specs.declared.card.Suit.{Suit}
use Rattle.cards.specs.Codes.{suit_code, rank_code, card_code}
use Rattle.cards.proofs.Order.{rank_above, suit_same}
use Rattle.lines.specs.declared.problem.Problem.{Problem}
use Rattle.lines.specs.Told.{trump_suit_of}
use Rattle.cardplay.specs.Cards.{Layout, Dealt, suit, rank, beats}
use Rattle.deals.specs.Dealing.{dealt_of}

rank_small : (r : Rank) → rank_code r < 13
rank_small r = search rules

-- a card's code tells its suit and its rank
pub code_suit : (c : Card) → suit (card_code c) ≡ suit_code c.suit
code_suit c = let l = rank_small c.rank in omega arith

pub code_rank : (c : Card) → rank (card_code c) ≡ rank_code c.rank
code_rank c = let l = rank_small c.rank in omega arith

module _ (ls : List Layout) (n : ℕ) (a b : Card) where
  of_trump : Option ℕ → Dealt
  of_trump o = record { trump = o; layouts = ls; leader = n }

  by_rank : (o : Option ℕ) → suit_code a.suit ≡ suit_code b.suit
      → ltb (rank_code b.rank) (rank_code a.rank) ≡ beats (of_trump o) (card_code a) (card_code b)
  unfolding of_trump
  by_rank None e = simp (code_suit, code_rank) (grind (arith, nat_tests))
  by_rank (Some t) e = simp (code_suit, code_rank) (grind (arith, nat_tests))

  of_another : (t : ℕ) → (suit_code a.suit ≡ suit_code b.suit → ⊥)
      → eqb (suit_code a.suit) t ≡ beats (of_trump (Some t)) (card_code a) (card_code b)
  unfolding of_trump
  of_another t n = simp (code_suit, code_rank) (grind (arith, nat_tests))

  -- no card is beaten by one of another suit unless that is a trump
  by_trump : (o : Option Suit) → (suit_code a.suit ≡ suit_code b.suit → ⊥)
      → option_eq suit_eq.it o (Some a.suit) ≡ beats (of_trump (option_map suit_code o)) (card_code a) (card_code b)
  unfolding of_trump
  by_trump None n = simp (code_suit, code_rank) (grind (arith, nat_tests))
  by_trump (Some t) n = let e = suit_same t a.suit in e ∙ simp (code_suit, code_rank) (grind (arith, nat_tests))

-- of one suit the higher card is the better one, and of two suits only a trump beats the other card: for every deal
pub same_suit : (d : Dealt) (a b : Card) → suit_code a.suit ≡ suit_code b.suit
    → ltb (rank_code b.rank) (rank_code a.rank) ≡ beats d (card_code a) (card_code b)
unfolding of_trump
same_suit d a b = by_rank d.layouts d.leader a b d.trump

pub other_suit : (d : Dealt) (a b : Card) (t : ℕ) → d.trump ≡ Some t → (suit_code a.suit ≡ suit_code b.suit → ⊥)
    → eqb (suit_code a.suit) t ≡ beats d (card_code a) (card_code b)
unfolding of_trump
other_suit d a b t e n =
    of_another d.layouts d.leader a b t n ∙ ap (λ (o : Option ℕ). beats (of_trump d.layouts d.leader a b o) (card_code a) (card_code b)) (sym e)

-- the same for the deal of a problem, by what the code compares
module _ (p : Problem) (a b : Card) (x : Bool) where
  pub higher_rank : x ≡ partial_gt rank_cmp.it a.rank b.rank → sameb suit_type a.suit b.suit ≡ true
      → x ≡ beats (dealt_of p) (card_code a) (card_code b)
  unfolding of_trump
  higher_rank e s =
      let d = dealt_of p in
      e ∙ rank_above a.rank b.rank ∙ same_suit d a b (eqb-true _ _ (sym (suit_same a.suit b.suit) ∙ s))

  pub trumped : x ≡ option_eq suit_eq.it (trump_suit_of p) (Some a.suit) → sameb suit_type a.suit b.suit ≡ false
      → x ≡ beats (dealt_of p) (card_code a) (card_code b)
  unfolding of_trump
  trumped e s =
      let d = dealt_of p in
      e ∙ by_trump d.layouts d.leader a b (trump_suit_of p) (λ q. let f = suit_same a.suit b.suit in absurd (grind (arith, nat_tests)))
