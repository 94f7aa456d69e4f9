-- What a problem says, by numbers: sets of cards by their digits, suits and seats by their codes.
use Rattle.std.specs.Prelude.{◌≡◌, ℕ, zero, suc, ◌^◌, ◌<◌, ◌≤◌, List, [], ◌∷◌, length, Some, None, Option, bit_and, bit_or}
use Rattle.std.specs.List.{AllByRecursion}
use Rattle.lines.specs.Spelling.{size}

-- what is asked: how many tricks seats 0 and 2 make, or which layouts one plan beats, that is, makes a target in
pub data Asked : Type 0 where
  tricks : Asked
  plan : ℕ → Asked

-- a layout: the hands of seats 1 and 3
pub record Defence : Type 0 where
  pub hand1 : ℕ
  pub hand3 : ℕ

-- a deal; the hands of seats 0 and 2 are the same in all layouts
pub record Deal : Type 0 where
  pub asked : Asked
  pub trump : Option ℕ
  pub leader : ℕ
  pub hand0 : ℕ
  pub hand2 : ℕ
  pub layouts : List Defence

-- the cards that seats 1 and 3 hold together
abbrev pub both : Defence → ℕ
both l = bit_or l.hand1 l.hand3

-- those of the first layout
abbrev pub first_both : List Defence → ℕ
first_both [] = 0
first_both (l ∷ ls) = both l

-- the hand of a seat, 0 to 3, beside a layout
abbrev pub seat_hand : Deal → Defence → ℕ → ℕ
seat_hand d l zero = d.hand0
seat_hand d l (suc zero) = l.hand1
seat_hand d l (suc (suc zero)) = d.hand2
seat_hand d l (suc (suc (suc n))) = l.hand3

abbrev pub hand_among : Deal → List Defence → ℕ → ℕ → Option ℕ
hand_among d [] i seat = None
hand_among d (l ∷ ls) zero seat = Some (seat_hand d l seat)
hand_among d (l ∷ ls) (suc i) seat = hand_among d ls i seat

-- the hand of a seat in a layout, from 0; none past the last layout
abbrev pub hand_in : Deal → ℕ → ℕ → Option ℕ
hand_in d i seat = hand_among d d.layouts i seat

abbrev pub TrumpFits : Option ℕ → Type 0
TrumpFits None = Unit {0}
TrumpFits (Some s) = s < 4

-- tricks are asked of one layout, a plan of a target from 1 to 13
abbrev pub AskedFits : Asked → ℕ → Type 0
AskedFits tricks n = n ≡ 1
AskedFits (plan t) n = (1 ≤ t) × (t ≤ 13)

-- a hand of n cards, none of them among some others
pub record HandFits (n others h : ℕ) : Type 0 where
  pub cards : h < 2 ^ 52
  pub many : size h ≡ n
  pub apart : bit_and h others ≡ 0

pub record LayoutFits (d : Deal) (l : Defence) : Type 0 where
  pub first : HandFits (size d.hand0) (bit_or d.hand0 d.hand2) l.hand1
  pub third : HandFits (size d.hand0) (bit_or (bit_or d.hand0 d.hand2) l.hand1) l.hand3
  pub same : both l ≡ first_both d.layouts

-- a deal that can be played: all hands of a layout have equally many cards, 1 to 13, and none in common;
-- there are one to six layouts, and seats 1 and 3 together hold the same cards in all of them
pub record Valid (d : Deal) : Type 0 where
  pub asks : AskedFits d.asked (length d.layouts)
  pub trump : TrumpFits d.trump
  pub leads : d.leader < 4
  pub cards : d.hand0 < 2 ^ 52
  pub some : 1 ≤ size d.hand0
  pub few : size d.hand0 ≤ 13
  pub partner : HandFits (size d.hand0) d.hand0 d.hand2
  pub listed : 1 ≤ length d.layouts
  pub six : length d.layouts ≤ 6
  pub each : AllByRecursion (LayoutFits d) d.layouts
