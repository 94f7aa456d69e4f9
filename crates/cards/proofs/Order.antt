-- The derived comparisons of suits, ranks and cards are those of their codes.
use Rattle.std.proofs.Common.{◌≡◌, ◌<◌, eqb, leb, ltb, rules, arith}
use Rattle.std.proofs.lemmas.Grind.{common_steps}
use Rattle.std.specs.Ordering.{partial_le, partial_lt, partial_gt}
use denote.Enum.Bare.{sameb}
use Rattle.cards.specs.contracts.card.Suit.{the_type as suit_type}
use Rattle.cards.specs.contracts.card.CardPartialOrd.TheImpl.{partial_cmp-value as card_cmp}
use Rattle.cards.specs.contracts.card.RankPartialOrd.TheImpl.{partial_cmp-value as rank_cmp}
use Rattle.cards.specs.declared.card.Suit.{Suit}
use Rattle.cards.specs.declared.card.Rank.{Rank}
use Rattle.cards.specs.declared.card.Card.{Card}
use Rattle.cards.specs.Codes.{suit_code, rank_code, card_code}

pub rank_less : (a b : Rank) → partial_lt rank_cmp.it a b ≡ ltb (rank_code a) (rank_code b)
rank_less a b = search rules

pub rank_above : (a b : Rank) → partial_gt rank_cmp.it a b ≡ ltb (rank_code b) (rank_code a)
rank_above a b = search rules

pub suit_same : (a b : Suit) → sameb suit_type a b ≡ eqb (suit_code a) (suit_code b)
suit_same a b = search rules

rank_small : (r : Rank) → rank_code r < 13
rank_small r = search rules

pub card_less : (a b : Card) → partial_lt card_cmp.it a b ≡ ltb (card_code a) (card_code b)
card_less a b = let f = rank_small a.rank in let g = rank_small b.rank in grind (arith, common_steps)

pub card_at_most : (a b : Card) → partial_le card_cmp.it a b ≡ leb (card_code a) (card_code b)
card_at_most a b = let f = rank_small a.rank in let g = rank_small b.rank in grind (arith, common_steps)
