-- Worked examples: who wins a trick, with and without a trump suit, and the key of a first position.
use Rattle.std.proofs.Common.{◌≡◌, ℕ, ◌+◌, ◌*◌, ◌^◌, [], ◌∷◌, Some, None, Option, refl}
use Rattle.cardplay.specs.Cards.{Dealt, winner, card_key}
use Rattle.cardplay.specs.Deals.{first_play}

-- a spade to each seat, from the ace down
abbrev pub one_trick : Option ℕ → Dealt
one_trick t = record { trump = t; layouts = record { zeroth = 2 ^ 51; first = 2 ^ 50; second = 2 ^ 49; third = 2 ^ 48 } ∷ []; leader = 0 }

-- H5 is led, then come S2, HK and H6: the king wins, but spades as trumps win with the two
pub no_trump_winner : winner (one_trick None) (29 ∷ 39 ∷ 37 ∷ 30 ∷ []) ≡ 2
no_trump_winner = refl

pub spades_winner : winner (one_trick (Some 3)) (29 ∷ 39 ∷ 37 ∷ 30 ∷ []) ≡ 1
spades_winner = refl

pub first_key : card_key (one_trick None) (first_play (one_trick None)) ≡ record { first = 15 * 2 ^ 48 + 2 ^ 58; second = 0 }
first_key = refl
