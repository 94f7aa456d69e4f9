-- The written form of a deal, and the law of the format.
use Rattle.std.specs.Prelude.{◌≡◌, ℕ, ◌+◌, ◌/◌, ◌%◌, cond, ◌↔◌, List, [], ◌∷◌, ◌++◌, length, Some, None, Ok, codes, Option, Result, nat_lt, slice_index}
use Rattle.bitsets.specs.Sets.{members}
use Rattle.lines.specs.declared.fault.Fault.{Fault}
use Rattle.lines.specs.Spelling.{suit_letters, rank_letters}
use Rattle.lines.specs.Deals.{Asked, tricks, plan, Defence, Deal, Valid}

-- fields put together, parted by commas (44)
abbrev pub joined : List (List ℕ) → List ℕ
joined [] = []
joined (p ∷ []) = p
joined (p ∷ q ∷ ps) = p ++ 44 ∷ joined (q ∷ ps)

-- a number below 100 in decimal
abbrev pub decimal : ℕ → List ℕ
decimal n = cond (nat_lt n 10) ((48 + n) ∷ []) ((48 + n / 10) ∷ (48 + n % 10) ∷ [])

abbrev pub trump_text : Option ℕ → List ℕ
trump_text None = codes "N"
trump_text (Some s) = slice_index suit_letters s ∷ []

-- each card by the letters of its suit and its rank
abbrev pub cards_text : List ℕ → List ℕ
cards_text [] = []
cards_text (c ∷ cs) = slice_index suit_letters (c / 13) ∷ slice_index rank_letters (c % 13) ∷ cards_text cs

-- a hand's cards in rising code
abbrev pub hand_text : ℕ → List ℕ
hand_text h = cards_text (members 52 h)

abbrev pub layout_texts : List Defence → List (List ℕ)
layout_texts [] = []
layout_texts (l ∷ ls) = hand_text l.hand1 ∷ hand_text l.hand3 ∷ layout_texts ls

-- D, trump, leader, hands 0 to 3
abbrev pub tricks_texts : Deal → List Defence → List (List ℕ)
tricks_texts d [] = []
tricks_texts d (l ∷ ls) =
    codes "D" ∷ trump_text d.trump ∷ decimal d.leader ∷ hand_text d.hand0 ∷ hand_text l.hand1 ∷ hand_text d.hand2 ∷ hand_text l.hand3 ∷ []

-- P, trump, leader, target, hands 0 and 2, the number of layouts, and hands 1 and 3 of each
abbrev pub plan_texts : Deal → ℕ → List (List ℕ)
plan_texts d t =
    codes "P" ∷ trump_text d.trump ∷ decimal d.leader ∷ decimal t ∷ hand_text d.hand0 ∷ hand_text d.hand2 ∷ decimal (length d.layouts) ∷ layout_texts d.layouts

abbrev pub texts_for : Asked → Deal → List (List ℕ)
texts_for tricks d = tricks_texts d d.layouts
texts_for (plan t) d = plan_texts d t

-- the fields of a deal's line
abbrev pub texts : Deal → List (List ℕ)
texts d = texts_for d.asked d

abbrev pub written : Deal → List ℕ
written d = joined (texts d)

-- an answer is right for a line: it is a deal exactly when the deal is valid and the line is its written form
abbrev pub Right : List ℕ → Result Deal Fault → Type 0
Right line answer = (d : Deal) → (answer ≡ Ok d) ↔ (Valid d × (line ≡ written d))
