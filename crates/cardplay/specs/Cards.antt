-- Card play: whist tricks over one to six layouts. A set of cards or of layouts is the sum of 2 ^ n over its members n.
use Rattle.std.specs.Prelude.{ℕ, zero, suc, ◌+◌, ◌-◌, ◌*◌, ◌/◌, ◌%◌, ◌^◌, Bool, true, false, cond, not, ◌&&◌, ◌||◌, List, [], ◌∷◌, ◌++◌, length, Some, None, Option, ◌==◌, bit_and, bit_or, count_ones, nat_lt, slice_index}
use Rattle.bitsets.specs.Sets.{has}
pub use Rattle.cards.specs.Codes.{suit_cards as of_suit}
use Rattle.games.specs.declared.side.Side.{Side}
use Rattle.games.specs.declared.side.Side.TheVariants.{Max, Min}
use Rattle.games.specs.declared.key.Key.{Key}
use Rattle.games.specs.Trees.{Tree, over, turn, Forest, none, also}

-- the suit of a card's code
abbrev pub suit : ℕ → ℕ
suit c = c / 13

-- the rank of a card's code, 0 for a two to 12 for an ace
abbrev pub rank : ℕ → ℕ
rank c = c % 13

-- the four hands of a layout, by seat
pub record Layout : Type 0 where
  pub zeroth : ℕ
  pub first : ℕ
  pub second : ℕ
  pub third : ℕ

-- the hand of a seat, 0 to 3
abbrev pub hand : Layout → ℕ → ℕ
hand l zero = l.zeroth
hand l (suc zero) = l.first
hand l (suc (suc zero)) = l.second
hand l (suc (suc (suc n))) = l.third

-- a deal: the trump suit if there is one, the layouts, and the seat that leads first
pub record Dealt : Type 0 where
  pub trump : Option ℕ
  pub layouts : List Layout
  pub leader : ℕ

-- a state of play
pub record Play : Type 0 where
  -- the set of unplayed cards
  pub unplayed : ℕ
  -- the seat that led to the trick, and the cards of the trick in the order played
  pub leader : ℕ
  pub trick : List ℕ
  -- the tricks won by seats 0 and 2
  pub won : ℕ
  -- the set of live layouts: those in which every card so far was legal
  pub live : ℕ

-- whether a hand lets a card follow in a trick: of the suit led, unless the hand has none
abbrev pub follows : ℕ → List ℕ → ℕ → Bool
follows h [] c = true
follows h (led ∷ cs) c = suit c == suit led || bit_and h (of_suit (suit led)) == 0

-- the cards of a hand that may follow, as a set
abbrev pub may_play : ℕ → List ℕ → ℕ
may_play h [] = h
may_play h (led ∷ cs) = cond (bit_and h (of_suit (suit led)) == 0) h (bit_and h (of_suit (suit led)))

module _ (d : Dealt) where
  -- the seat to play
  abbrev pub to_play : Play → ℕ
  to_play p = (p.leader + length p.trick) % 4

  -- the unplayed cards of the seat to play, in a layout
  abbrev pub held : Play → Layout → ℕ
  held p l = bit_and (hand l (to_play p)) p.unplayed

  -- legal in a layout: a card of the hand, and of the suit led if the hand has one
  abbrev pub legal_in : Play → Layout → ℕ → Bool
  legal_in p l c = has (held p l) c && follows (held p l) p.trick c

  -- legal in some live layout of a list, whose first is layout i
  abbrev pub some_legal : Play → List Layout → ℕ → ℕ → Bool
  some_legal p [] i c = false
  some_legal p (l ∷ ls) i c = (has p.live i && legal_in p l c) || some_legal p ls (suc i) c

  -- a card is legal if it is legal in some live layout
  abbrev pub legal : Play → ℕ → Bool
  legal p c = some_legal p d.layouts 0 c

  -- the cards that are legal in some live layout of a list, whose first is layout i
  abbrev pub some_hands : Play → List Layout → ℕ → ℕ
  some_hands p [] i = 0
  some_hands p (l ∷ ls) i = bit_or (cond (has p.live i) (may_play (held p l) p.trick) 0) (some_hands p ls (suc i))

  -- the legal cards as a set
  abbrev pub legal_set : Play → ℕ
  legal_set p = some_hands p d.layouts 0

  -- the live layouts of a list, whose first is layout i, where a card is legal
  abbrev pub still : Play → List Layout → ℕ → ℕ → ℕ
  still p [] i c = 0
  still p (l ∷ ls) i c = cond (has p.live i && legal_in p l c) (2 ^ i) 0 + still p ls (suc i) c

  -- the layouts that stay live after a card
  abbrev pub live_after : Play → ℕ → ℕ
  live_after p c = still p d.layouts 0 c

  -- whether card x beats the winner so far w
  abbrev pub beats : ℕ → ℕ → Bool
  beats x w = by d.trump
    where
      higher : Bool
      higher = suit x == suit w && nat_lt (rank w) (rank x)

      by : Option ℕ → Bool
      by None = higher
      by (Some t) = higher || (suit x == t && not (suit w == t))

  -- the place of the winning card, if w at the place `at` wins so far and the cards from place n on are still to come
  abbrev pub winner_from : ℕ → ℕ → ℕ → List ℕ → ℕ
  winner_from w at n [] = at
  winner_from w at n (x ∷ xs) = cond (beats x w) (winner_from x n (suc n) xs) (winner_from w at (suc n) xs)

  -- the place of the winning card
  abbrev pub winner : List ℕ → ℕ
  winner [] = 0
  winner (x ∷ xs) = winner_from x 0 1 xs

  -- the seat that takes a trick whose last card is c
  abbrev pub taker : Play → ℕ → ℕ
  taker p c = (p.leader + winner (p.trick ++ (c ∷ []))) % 4

  -- the card c closes the trick: the seat that takes it leads next
  abbrev pub closes : Play → ℕ → Play
  closes p c = record { unplayed = p.unplayed - 2 ^ c; leader = taker p c; trick = []; won = p.won + (1 - taker p c % 2); live = live_after p c }

  -- the card c is put to the trick, which goes on
  abbrev pub goes_on : Play → ℕ → Play
  goes_on p c = record { unplayed = p.unplayed - 2 ^ c; leader = p.leader; trick = p.trick ++ (c ∷ []); won = p.won; live = live_after p c }

  -- the state after the card c
  abbrev pub after_card : Play → ℕ → Play
  after_card p c = cond (length p.trick == 3) (closes p c) (goes_on p c)

  -- the key of a state: its parts side by side in two words
  abbrev pub card_key : Play → Key
  card_key p =
      record {
        first = p.unplayed + p.leader * 2 ^ 52 + p.won * 2 ^ 54 + p.live * 2 ^ 58;
        second = length p.trick + 4 * slice_index p.trick 0 + 256 * slice_index p.trick 1 + 16384 * slice_index p.trick 2;
      }

  -- Max plays for seats 0 and 2
  abbrev pub side : Play → Side
  side p = cond (to_play p % 2 == 0) Max Min

  -- the legal cards from card 52 - k on, in rising code
  abbrev pub legal_from : Play → ℕ → List ℕ
  legal_from p zero = []
  legal_from p (suc k) = cond (legal p (51 - k)) ((51 - k) ∷ legal_from p k) (legal_from p k)

  -- the legal cards, in rising code
  unfoldable pub legal_cards : Play → List ℕ
  legal_cards p = legal_from p 52

  module _ {S : Type 0} (score : Play → S) where
    -- a forest of one tree for each card of a list
    abbrev pub grown : (ℕ → Tree S) → List ℕ → Forest S
    grown f [] = none
    grown f (c ∷ cs) = also (f c) (grown f cs)

    -- the tree of a state with n unplayed cards: one child for each legal card, and the score at the end
    abbrev pub tree : ℕ → Play → Tree S
    tree zero p = over (card_key p) 0 (score p)
    tree (suc n) p = turn (card_key p) (suc n) (side p) (grown (λ c. tree n (after_card p c)) (legal_cards p))

    -- the position of a state
    abbrev pub position : Play → Tree S
    position p = tree (count_ones p.unplayed) p
