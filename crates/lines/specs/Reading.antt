-- What the reader answers: the first fault from the left, or the deal.
use Rattle.std.specs.Prelude.{ℕ, zero, suc, Bool, true, cond, List, [], ◌∷◌, ◌++◌, Some, None, Ok, Err, Option, Result, ◌==◌, bit_and, bit_or}
use Rattle.lines.specs.declared.fault.FaultKind.{FaultKind}
use Rattle.lines.specs.declared.fault.FaultKind.TheVariants.{Kind, Missing, Value, Hand, Length, Repeated, Cards, Surplus}
use Rattle.lines.specs.declared.fault.Fault.{Fault}
use Rattle.lines.specs.Fields.{Spot, start, next_spot}
use Rattle.lines.specs.Spelling.{trump_of, leader_of, target_of, count_of, hand_of, size}
use Rattle.lines.specs.Deals.{tricks, plan, Defence, Deal, both}

-- a fault at the next field
abbrev pub fault_at : FaultKind → Spot → Fault
fault_at k s = record { kind = k; place = record { field = s.number; byte = s.byte } }

-- going on with what was read, if it was right
abbrev pub then : {T U : Type 0} → Result T Fault → (T → Result U Fault) → Result U Fault
then (Ok x) k = k x
then (Err e) k = Err e

abbrev pub or_fault : {T : Type 0} → Option T → Fault → Result T Fault
or_fault None e = Err e
or_fault (Some x) e = Ok x

abbrev pub first_as : {T : Type 0} → (List ℕ → Option T) → FaultKind → List (List ℕ) → Spot → Result T Fault
first_as read bad [] s = Err (fault_at Missing s)
first_as read bad (p ∷ ps) s = or_fault (read p) (fault_at bad s)

-- the next field as `read` reads it: it has to be there, and `read` has to take it
abbrev pub field : {T : Type 0} → (List ℕ → Option T) → FaultKind → Spot → Result T Fault
field read bad s = first_as read bad s.rest s

-- a hand as long as n, with no card of some earlier ones
abbrev pub hand_at : ℕ → ℕ → Spot → Result ℕ Fault
hand_at n earlier s =
    then (field hand_of Hand s) (λ h.
    cond (size h == n) (cond (bit_and h earlier == 0) (Ok h) (Err (fault_at Repeated s))) (Err (fault_at Length s)))

-- the cards that seats 1 and 3 hold in the first of some layouts
abbrev pub first_cards : List Defence → Option ℕ
first_cards [] = None
first_cards (l ∷ ls) = Some (both l)

-- whether a layout's cards are those of the first one, if there is one
abbrev pub agrees : Option ℕ → ℕ → Bool
agrees None cards = true
agrees (Some first) cards = cards == first

-- a layout, hand 1 and hand 3, beside hands 0 and 2
abbrev pub layout_at : ℕ → ℕ → Option ℕ → Spot → Result Defence Fault
layout_at h0 h2 first s =
    then (hand_at (size h0) (bit_or h0 h2) s) (λ h1. then (hand_at (size h0) (bit_or (bit_or h0 h2) h1) (next_spot s)) (λ h3.
    cond (agrees first (bit_or h1 h3)) (Ok (record { hand1 = h1; hand3 = h3 })) (Err (fault_at Cards (next_spot s)))))

abbrev pub nothing_left : {T : Type 0} → List (List ℕ) → Spot → T → Result T Fault
nothing_left [] s x = Ok x
nothing_left (p ∷ ps) s x = Err (fault_at Surplus s)

-- the answer, if no field is left
abbrev pub end_at : {T : Type 0} → T → Spot → Result T Fault
end_at x s = nothing_left s.rest s x

-- n layouts more, after some, and then nothing
abbrev pub layouts_at : ℕ → ℕ → ℕ → List Defence → Spot → Result (List Defence) Fault
layouts_at zero h0 h2 so_far s = end_at so_far s
layouts_at (suc n) h0 h2 so_far s =
    then (layout_at h0 h2 (first_cards so_far) s) (λ l. layouts_at n h0 h2 (so_far ++ (l ∷ [])) (next_spot (next_spot s)))

abbrev pub then_next : {T U : Type 0} → Result T Fault → Spot → (T → Spot → Result U Fault) → Result U Fault
then_next r s k = then r (λ x. k x (next_spot s))

-- trump, leader, hand 0, hand 1, hand 2, hand 3
abbrev pub tricks_at : Spot → Result Deal Fault
tricks_at s =
    then_next (field trump_of Value s) s (λ trump s. then_next (field leader_of Value s) s (λ leader s.
    then_next (field hand_of Hand s) s (λ h0 s. then_next (hand_at (size h0) h0 s) s (λ h1 s.
    then_next (hand_at (size h0) (bit_or h0 h1) s) s (λ h2 s. then_next (hand_at (size h0) (bit_or (bit_or h0 h1) h2) s) s (λ h3 s.
    end_at (record { asked = tricks; trump = trump; leader = leader; hand0 = h0; hand2 = h2; layouts = record { hand1 = h1; hand3 = h3 } ∷ [] }) s))))))

-- trump, leader, target, hand 0, hand 2, the number of layouts, and the layouts
abbrev pub plan_at : Spot → Result Deal Fault
plan_at s =
    then_next (field trump_of Value s) s (λ trump s. then_next (field leader_of Value s) s (λ leader s.
    then_next (field target_of Value s) s (λ target s. then_next (field hand_of Hand s) s (λ h0 s.
    then_next (hand_at (size h0) h0 s) s (λ h2 s. then_next (field count_of Value s) s (λ n s.
    then (layouts_at n h0 h2 [] s) (λ ls.
    Ok (record { asked = plan target; trump = trump; leader = leader; hand0 = h0; hand2 = h2; layouts = ls }))))))))

-- the first field says how the rest is read: D (68) or P (80)
abbrev pub by_letter : Spot → ℕ → Result Deal Fault
by_letter s b = cond (b == 68) (tricks_at (next_spot s)) (cond (b == 80) (plan_at (next_spot s)) (Err (fault_at Kind s)))

abbrev pub by_kind : List (List ℕ) → Spot → Result Deal Fault
by_kind [] s = Err (fault_at Kind s)
by_kind ([] ∷ ps) s = Err (fault_at Kind s)
by_kind ((b ∷ []) ∷ ps) s = by_letter s b
by_kind ((b ∷ c ∷ bs) ∷ ps) s = Err (fault_at Kind s)

abbrev pub read_line : List ℕ → Result Deal Fault
read_line line = by_kind (start line).rest (start line)
