-- How values stand in a field: letters, numbers, hands of cards. Each reading is the inverse of a writing.
use Rattle.std.specs.Prelude.{ℕ, suc, ◌+◌, ◌-◌, ◌*◌, ◌^◌, cond, ◌&&◌, List, [], ◌∷◌, length, Some, None, codes, Option, ◌==◌, bit_or, nat_le, nat_lt}
use Rattle.std.specs.Option.{option_map}
use Rattle.bitsets.specs.Sets.{members}

-- ---- letters

-- clubs, diamonds, hearts, spades
abbrev pub suit_letters : List ℕ
suit_letters = codes "CDHS"

-- twos to aces
abbrev pub rank_letters : List ℕ
rank_letters = codes "23456789TJQKA"

abbrev pub seat_letters : List ℕ
seat_letters = codes "0123"

-- the place of a letter in a list, from 0
abbrev pub place_of : List ℕ → ℕ → Option ℕ
place_of [] b = None
place_of (l ∷ ls) b = cond (b == l) (Some 0) (option_map suc (place_of ls b))

-- a field that is one letter
abbrev pub one_letter : {T : Type 0} → (ℕ → Option T) → List ℕ → Option T
one_letter read [] = None
one_letter read (b ∷ []) = read b
one_letter read (b ∷ c ∷ bs) = None

abbrev pub leader_of : List ℕ → Option ℕ
leader_of = one_letter (place_of seat_letters)

-- N for none, else a suit's letter
abbrev pub trump_of : List ℕ → Option (Option ℕ)
trump_of = one_letter (λ b. cond (b == 78) (Some None) (option_map Some (place_of suit_letters b)))

-- ---- numbers

abbrev pub digit_of : ℕ → Option ℕ
digit_of b = cond (nat_le 48 b && nat_le b 57) (Some (b - 48)) None

abbrev pub two_digits : Option ℕ → Option ℕ → Option ℕ
two_digits None b = None
two_digits (Some a) None = None
two_digits (Some a) (Some b) = Some (10 * a + b)

-- one or two decimal digits, with no leading zero
abbrev pub number_of : List ℕ → Option ℕ
number_of [] = None
number_of (a ∷ []) = digit_of a
number_of (a ∷ b ∷ []) = cond (a == 48) None (two_digits (digit_of a) (digit_of b))
number_of (a ∷ b ∷ c ∷ bs) = None

abbrev pub within : ℕ → ℕ → Option ℕ → Option ℕ
within low high None = None
within low high (Some n) = cond (nat_le low n && nat_le n high) (Some n) None

abbrev pub target_of : List ℕ → Option ℕ
target_of text = within 1 13 (number_of text)

abbrev pub count_of : List ℕ → Option ℕ
count_of text = within 1 6 (number_of text)

-- ---- hands

abbrev pub code_of : Option ℕ → Option ℕ → Option ℕ
code_of None r = None
code_of (Some s) None = None
code_of (Some s) (Some r) = Some (13 * s + r)

-- the code of the card that a suit letter and a rank letter spell
abbrev pub card_of : ℕ → ℕ → Option ℕ
card_of a b = code_of (place_of suit_letters a) (place_of rank_letters b)

-- the next card, whose code is to be `low` or above, and what follows it
abbrev pub with_card : ℕ → Option ℕ → (ℕ → Option ℕ) → Option ℕ
with_card low None k = None
with_card low (Some c) k = cond (nat_lt c low) None (k c)

-- the set of the cards that a text spells in strictly rising code, put to a set of cards below `low`
abbrev pub cards_from : ℕ → ℕ → List ℕ → Option ℕ
cards_from low cards [] = Some cards
cards_from low cards (a ∷ []) = None
cards_from low cards (a ∷ b ∷ bs) = with_card low (card_of a b) (λ c. cards_from (c + 1) (bit_or cards (2 ^ c)) bs)

abbrev pub cards_of : List ℕ → Option ℕ
cards_of = cards_from 0 0

-- the number of cards in a set
abbrev pub size : ℕ → ℕ
size h = length (members 52 h)

-- a hand is 1 to 13 cards
abbrev pub as_hand : Option ℕ → Option ℕ
as_hand None = None
as_hand (Some h) = cond (nat_le 1 (size h) && nat_le (size h) 13) (Some h) None

abbrev pub hand_of : List ℕ → Option ℕ
hand_of text = as_hand (cards_of text)
