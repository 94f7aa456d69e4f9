-- The codes of suits, ranks and cards.
use Rattle.std.specs.Prelude.{◌≡◌, ℕ, ◌+◌, ◌-◌, ◌*◌, ◌^◌, ◌≤◌, Result, MatchResult}
use Rattle.cards.specs.declared.card.Suit.{Suit}
use Rattle.cards.specs.declared.card.Suit.TheVariants.{Clubs, Diamonds, Hearts, Spades}
use Rattle.cards.specs.declared.card.Rank.{Rank}
use Rattle.cards.specs.declared.card.Rank.TheVariants.{Two, Three, Four, Five, Six, Seven, Eight, Nine, Ten, Jack, Queen, King, Ace}
use Rattle.cards.specs.declared.card.Card.{Card}
use Rattle.cards.specs.declared.card.UnknownCode.{UnknownCode}

abbrev pub suit_code : Suit → ℕ
suit_code Clubs = 0
suit_code Diamonds = 1
suit_code Hearts = 2
suit_code Spades = 3

abbrev pub rank_code : Rank → ℕ
rank_code Two = 0
rank_code Three = 1
rank_code Four = 2
rank_code Five = 3
rank_code Six = 4
rank_code Seven = 5
rank_code Eight = 6
rank_code Nine = 7
rank_code Ten = 8
rank_code Jack = 9
rank_code Queen = 10
rank_code King = 11
rank_code Ace = 12

abbrev pub card_code : Card → ℕ
card_code c = 13 * suit_code c.suit + rank_code c.rank

-- the cards of the suit with a code, as a set: thirteen digits from 13 × suit on
abbrev pub suit_cards : ℕ → ℕ
suit_cards s = (2 ^ 13 - 1) * 2 ^ (13 * s)

-- the result is the value with this code; an error only for a number from the first on that is no code, and with that number
abbrev pub Decodes : {T : Type 0} → (T → ℕ) → ℕ → ℕ → Result T UnknownCode → Type 0
Decodes code_of past code r = MatchResult r (λ x. code_of x ≡ code) (λ e. (e.0 ≡ code) × (past ≤ code))
