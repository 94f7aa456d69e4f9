-- What a deal has to be, its first position, and the positions reached from there.
use Rattle.std.specs.Prelude.{◌≡◌, ℕ, ◌-◌, ◌^◌, ◌<◌, ◌≤◌, true, List, [], ◌∷◌, map, length, ◌≢◌, bit_and, bit_or, count_ones, slice_index_or}
use Rattle.games.specs.Trees.{Line}
use Rattle.cardplay.specs.Cards.{Layout, hand, Dealt, Play, legal, after_card, position}
use Rattle.cardplay.specs.Plans.{nowhere, Reaches}

-- layout i, from 0
abbrev pub layout : Dealt → ℕ → Layout
layout d i = slice_index_or d.layouts i nowhere

-- a deal that can be played: one to six layouts, hands of equally many cards, 1 to 13, with none in common
pub record ValidDeal (d : Dealt) : Type 0 where
  pub some : 1 ≤ length d.layouts
  pub few : length d.layouts ≤ 6
  pub leads : d.leader < 4
  -- how many cards each hand has
  pub each : ℕ
  pub each_some : 1 ≤ each
  pub each_few : each ≤ 13
  pub sized : (i k : ℕ) → i < length d.layouts → k < 4 → count_ones (hand (layout d i) k) ≡ each
  pub small : (i k : ℕ) → i < length d.layouts → k < 4 → hand (layout d i) k < 2 ^ 52
  pub disjoint : (i j k : ℕ) → i < length d.layouts → j < 4 → k < 4 → (j ≢ k) → bit_and (hand (layout d i) j) (hand (layout d i) k) ≡ 0
  -- seats 0 and 2 each hold the same cards in all layouts, and so do seats 1 and 3 together
  pub same_0 : (i : ℕ) → i < length d.layouts → hand (layout d i) 0 ≡ hand (layout d 0) 0
  pub same_2 : (i : ℕ) → i < length d.layouts → hand (layout d i) 2 ≡ hand (layout d 0) 2
  pub same_1_3 : (i : ℕ) → i < length d.layouts
      → bit_or (hand (layout d i) 1) (hand (layout d i) 3) ≡ bit_or (hand (layout d 0) 1) (hand (layout d 0) 3)

-- all the cards of a layout
abbrev pub cards_of : Layout → ℕ
cards_of l = bit_or (bit_or (hand l 0) (hand l 2)) (bit_or (hand l 1) (hand l 3))

-- the loaded position: no card played, every listed layout live
abbrev pub first_play : Dealt → Play
first_play d =
    record { unplayed = cards_of (layout d 0); leader = d.leader; trick = []; won = 0; live = 2 ^ length d.layouts - 1 }

-- the positions that legal cards lead to
abbrev pub Reached : Dealt → Play → Type 0
Reached d p = (cs : List ℕ) × Reaches d (first_play d) cs p

-- where a card game stands: each state by a legal card from the one before it, back to the first
abbrev pub Played : Dealt → Play → List Play → Type 0
Played d p [] = p ≡ first_play d
Played d p (q ∷ qs) = ((c : ℕ) × (legal d q c ≡ true) × (p ≡ after_card d q c)) × Played d q qs

-- the line of positions of a card game, whatever is scored
abbrev pub card_line : {S : Type 0} → Dealt → (Play → S) → Play → List Play → Line S
card_line d score p qs = record { present = position d score p; earlier = map (position d score) qs }
