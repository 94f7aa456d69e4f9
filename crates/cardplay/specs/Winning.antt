-- Who wins a trick, by the rules of the game, and that the winner found is that card and no other.
use Rattle.std.specs.Prelude.{◌≡◌, ℕ, ◌<◌, true, ◌⊎◌, List, [], ◌∷◌, ◌++◌, length, Some, None, Option, ◌≢◌, slice_index}
use Rattle.cardplay.specs.Cards.{suit, rank, Dealt, Play, legal, winner}
use Rattle.cardplay.specs.Deals.{Reached}

-- the card at a place, in the order played
abbrev pub card_at : List ℕ → ℕ → ℕ
card_at cs i = slice_index cs i

-- no card is there twice
abbrev pub Distinct : List ℕ → Type 0
Distinct cs = (i j : ℕ) → i < length cs → j < length cs → card_at cs i ≡ card_at cs j → i ≡ j

-- no card is of the suit s
abbrev pub NoneOf : ℕ → List ℕ → Type 0
NoneOf s cs = (j : ℕ) → j < length cs → suit (card_at cs j) ≢ s

-- the card at place i is of the suit s, and every other card of that suit has a lower rank
pub record Highest (s : ℕ) (cs : List ℕ) (i : ℕ) : Type 0 where
  pub there : i < length cs
  pub suited : suit (card_at cs i) ≡ s
  pub lower : (j : ℕ) → j < length cs → (j ≢ i) → suit (card_at cs j) ≡ s → rank (card_at cs j) < rank (card_at cs i)

-- the highest trump wins; with no trump in the trick, or no trump suit, the highest card of the suit led
abbrev pub Wins : Option ℕ → List ℕ → ℕ → Type 0
Wins None cs i = Highest (suit (card_at cs 0)) cs i
Wins (Some t) cs i = Highest t cs i ⊎ (NoneOf t cs × Highest (suit (card_at cs 0)) cs i)

-- the winner found in a trick wins it, and no other card does
abbrev pub WinsAlone : Dealt → List ℕ → Type 0
WinsAlone d cs = Wins d.trump cs (winner d cs) × ((i : ℕ) → Wins d.trump cs i → i ≡ winner d cs)

-- so it is in every trick of distinct cards,
abbrev pub WinnerTheorem : Type 0
WinnerTheorem = (d : Dealt) (cs : List ℕ) → 0 < length cs → Distinct cs → WinsAlone d cs

-- and in every trick that play comes to: that of a position reached, with a legal card put to it
abbrev pub TrickTheorem : Type 0
TrickTheorem = (d : Dealt) (p : Play) → Reached d p → (c : ℕ) → legal d p c ≡ true → WinsAlone d (p.trick ++ (c ∷ []))
