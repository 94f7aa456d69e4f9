-- The cards of a trick, by their codes.
use Rattle.std.specs.Prelude.{ℕ, ◌+◌, ◌*◌, List, [], ◌∷◌, length, Some, None, Option, slice_index}
use Rattle.cards.specs.Codes.{card_code}
use Rattle.cardplay.specs.Cards.{suit}
use Rattle.deals.specs.declared.trick.Trick.{Trick}
use Rattle.deals.specs.declared.trick.Trick.TheVariants.{Empty, One, Two, Three}

-- in the order in which they were played
abbrev pub trick_codes : Trick → List ℕ
trick_codes Empty = []
trick_codes (One a) = card_code a ∷ []
trick_codes (Two a b) = card_code a ∷ card_code b ∷ []
trick_codes (Three a b c) = card_code a ∷ card_code b ∷ card_code c ∷ []

-- the suit led, if a card has been played
abbrev pub led_suit : List ℕ → Option ℕ
led_suit [] = None
led_suit (c ∷ cs) = Some (suit c)

-- a trick's part of a key: how many cards, and 6 bits for each of them
abbrev pub trick_word : List ℕ → ℕ
trick_word t = length t + 4 * slice_index t 0 + 256 * slice_index t 1 + 16384 * slice_index t 2
