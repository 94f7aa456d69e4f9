-- What the parts of the reader take: `part_ok` says what holds where a part answers Ok, and `ok_part` where it answers so.
use Rattle.std.proofs.Common.{◌≡◌, ℕ, zero, suc, ◌≤◌, Bool, true, false, cond, eqb, List, [], ◌∷◌, ◌++◌, length, Some, None, Ok, Err, Option, Result, sym, refl, ap, ◌∙◌, subst, append_assoc, arith, bit_and, bit_or}
use Rattle.std.specs.List.{AllByRecursion}
use Rattle.std.proofs.lemmas.List.{append-nil}
use Rattle.std.proofs.lemmas.Bool.{eqb-true, eq-eqb, cond-true}
use Rattle.lines.specs.declared.fault.FaultKind.{FaultKind}
use Rattle.lines.specs.declared.fault.FaultKind.TheVariants.{Missing, Hand as BadHand, Surplus}
use Rattle.lines.specs.declared.fault.Fault.{Fault}
use Rattle.lines.specs.Fields.{Spot, past, next_spot}
use Rattle.lines.specs.Spelling.{hand_of, size}
use Rattle.lines.specs.Deals.{Defence, Deal, both, first_both, HandFits, LayoutFits}
use Rattle.lines.specs.Reading.{fault_at, then, or_fault, first_as, field, hand_at, first_cards, agrees, layout_at, nothing_left, end_at, layouts_at}
use Rattle.lines.specs.Written.{hand_text, layout_texts}
use Rattle.lines.proofs.Cut.{spot}
use Rattle.lines.proofs.Letters.{Spells}
use Rattle.lines.proofs.HandText.{Hand, hands}

-- ---- answers

pub err_ok : {T : Type 0} (f : Fault) (x : T) → Err f ≡ Ok x → ⊥
err_ok f x e = let z : ◌≡◌ {A = ℕ} 0 1 = cc in omega arith

pub ok_same : {T : Type 0} (x y : T) → ◌≡◌ {A = Result T Fault} (Ok x) (Ok y) → x ≡ y
ok_same x y e = cc

pub then_ok : {T U : Type 0} (r : Result T Fault) (k : T → Result U Fault) (x : U) → then r k ≡ Ok x → (v : T) × (r ≡ Ok v) × (k v ≡ Ok x)
then_ok (Ok v) k x e = (v, refl, e)
then_ok (Err f) k x e = absurd (err_ok f x e)

pub ok_then : {T U : Type 0} {r : Result T Fault} {v : T} (k : T → Result U Fault) {x : Result U Fault} → r ≡ Ok v → k v ≡ x → then r k ≡ x
ok_then {T} k e f = ap (λ (y : Result T Fault). then y k) e ∙ f

test_ok : {T : Type 0} (t : Bool) (r : Result T Fault) (f : Fault) (x : T) → cond t r (Err f) ≡ Ok x → (t ≡ true) × (r ≡ Ok x)
test_ok true r f x e = (refl, e)
test_ok false r f x e = absurd (err_ok f x e)

-- ---- one field

or_fault_ok : {T : Type 0} (o : Option T) (f : Fault) (v : T) → or_fault o f ≡ Ok v → o ≡ Some v
or_fault_ok None f v e = absurd (err_ok f v e)
or_fault_ok (Some u) f v e = ap Some (ok_same u v e)

field_ok : {T : Type 0} {read : List ℕ → Option T} {Fits : T → Type 0} {text : T → List ℕ} → Spells read Fits text
    → (bad : FaultKind) (s : Spot) (v : T) → field read bad s ≡ Ok v → Fits v × (s.rest ≡ text v ∷ (next_spot s).rest)
field_ok {T} {read} {Fits} {text} spells bad s v e = go s.rest e
  where
    go : (ps : List (List ℕ)) → first_as read bad ps s ≡ Ok v → Fits v × (ps ≡ text v ∷ (past ps s.number s.byte).rest)
    go [] e = absurd (err_ok (fault_at Missing s) v e)
    go (p ∷ ps) e =
        let (f, q) = spells.reads p v (or_fault_ok (read p) (fault_at bad s) v e) in
        (f, ap (λ (x : List ℕ). x ∷ ps) q)

-- at a spot whose next field is the text of v, `field` computes to this
pub ok_field : {T : Type 0} {read : List ℕ → Option T} {Fits : T → Type 0} {text : T → List ℕ} → Spells read Fits text
    → (f : Fault) (v : T) → Fits v → or_fault (read (text v)) f ≡ Ok v
ok_field {T} spells f v fits = ap (λ (o : Option T). or_fault o f) (spells.back v fits)

-- ---- hands

hand_ok : (n earlier : ℕ) (s : Spot) (h : ℕ) → hand_at n earlier s ≡ Ok h
    → HandFits n earlier h × (s.rest ≡ hand_text h ∷ (next_spot s).rest)
hand_ok n earlier s h e =
    let (g, a, b) = then_ok (field hand_of BadHand s) _ h e in
    let (c, d) = test_ok (eqb (size g) n) _ _ h b in
    let (i, j) = test_ok (eqb (bit_and g earlier) 0) _ _ h d in
    let (f, q) = field_ok hands BadHand s g a in
    subst (λ (x : ℕ). HandFits n earlier x × (s.rest ≡ hand_text x ∷ (next_spot s).rest)) (ok_same g h j)
    (record { cards = f.cards; many = eqb-true (size g) n c; apart = eqb-true (bit_and g earlier) 0 i }, q)

-- a hand as long as one is a hand
as_long : (n earlier h : ℕ) → 1 ≤ n → n ≤ 13 → HandFits n earlier h → Hand h
as_long n earlier h a b f = let e = f.many in record { cards = f.cards; some = omega arith; few = omega arith }

pub ok_hand : (n earlier h : ℕ) (ps : List (List ℕ)) (i b : ℕ) → 1 ≤ n → n ≤ 13 → HandFits n earlier h
    → hand_at n earlier (spot (hand_text h ∷ ps) i b) ≡ Ok h
ok_hand n earlier h ps i b x y f =
    ok_then _ (ok_field hands _ h (as_long n earlier h x y f))
    (cond-true (eqb (size h) n) _ _ (eq-eqb (size h) n f.many) ∙ cond-true (eqb (bit_and h earlier) 0) (Ok h) _ (eq-eqb (bit_and h earlier) 0 f.apart))

-- ---- going on after a field

pub field_then : {T U : Type 0} {read : List ℕ → Option T} {Fits : T → Type 0} {text : T → List ℕ} → Spells read Fits text
    → (bad : FaultKind) (s : Spot) (k : T → Result U Fault) (x : U) → then (field read bad s) k ≡ Ok x
    → (v : T) × Fits v × (s.rest ≡ text v ∷ (next_spot s).rest) × (k v ≡ Ok x)
field_then {read = read} spells bad s k x e =
    let (v, a, b) = then_ok (field read bad s) k x e in
    let (f, q) = field_ok spells bad s v a in
    (v, f, q, b)

pub hand_then : {U : Type 0} (n earlier : ℕ) (s : Spot) (k : ℕ → Result U Fault) (x : U) → then (hand_at n earlier s) k ≡ Ok x
    → (h : ℕ) × HandFits n earlier h × (s.rest ≡ hand_text h ∷ (next_spot s).rest) × (k h ≡ Ok x)
hand_then n earlier s k x e =
    let (h, a, b) = then_ok (hand_at n earlier s) k x e in
    let (f, q) = hand_ok n earlier s h a in
    (h, f, q, b)

-- ---- layouts

-- what is known of a layout that was read at s
abbrev LayoutRead : ℕ → ℕ → Option ℕ → Spot → Defence → Type 0
LayoutRead h0 h2 first s l =
    HandFits (size h0) (bit_or h0 h2) l.hand1 × HandFits (size h0) (bit_or (bit_or h0 h2) l.hand1) l.hand3
    × (agrees first (both l) ≡ true) × (s.rest ≡ hand_text l.hand1 ∷ hand_text l.hand3 ∷ (next_spot (next_spot s)).rest)

layout_ok : (h0 h2 : ℕ) (first : Option ℕ) (s : Spot) (l : Defence) → layout_at h0 h2 first s ≡ Ok l → LayoutRead h0 h2 first s l
layout_ok h0 h2 first s l e =
    let (h1, a, f) = then_ok (hand_at (size h0) (bit_or h0 h2) s) _ l e in
    let (h3, b, g) = then_ok (hand_at (size h0) (bit_or (bit_or h0 h2) h1) (next_spot s)) _ l f in
    let (t, j) = test_ok (agrees first (bit_or h1 h3)) _ _ l g in
    let (u, p) = hand_ok (size h0) (bit_or h0 h2) s h1 a in
    let (v, q) = hand_ok (size h0) (bit_or (bit_or h0 h2) h1) (next_spot s) h3 b in
    subst (LayoutRead h0 h2 first s) (ok_same (record { hand1 = h1; hand3 = h3 }) l j)
    (u, v, t, p ∙ ap (λ (ps : List (List ℕ)). hand_text h1 ∷ ps) q)

ok_layout : (d : Deal) (first : Option ℕ) (l : Defence) (ps : List (List ℕ)) (n b : ℕ) → 1 ≤ size d.hand0 → size d.hand0 ≤ 13
    → LayoutFits d l → agrees first (both l) ≡ true
    → layout_at d.hand0 d.hand2 first (spot (hand_text l.hand1 ∷ hand_text l.hand3 ∷ ps) n b) ≡ Ok l
ok_layout d first l ps n b x y f t =
    let m = size d.hand0 in
    let mine = bit_or d.hand0 d.hand2 in
    ok_then _ (ok_hand m mine l.hand1 (hand_text l.hand3 ∷ ps) n b x y f.first)
    (ok_then _ (ok_hand m (bit_or mine l.hand1) l.hand3 ps _ _ x y f.third) (cond-true (agrees first (both l)) (Ok l) _ t))

pub end_ok : {T : Type 0} (x y : T) (s : Spot) → end_at x s ≡ Ok y → (s.rest ≡ []) × (x ≡ y)
end_ok x y s e = go s.rest e
  where
    go : (ps : List (List ℕ)) → nothing_left ps s x ≡ Ok y → (ps ≡ []) × (x ≡ y)
    go [] e = (refl, ok_same x y e)
    go (p ∷ ps) e = absurd (err_ok (fault_at Surplus s) y e)

-- a layout that agrees with the first of those before it has the cards of the first of all
agreed : (before : List Defence) (l : Defence) (after : List Defence) → agrees (first_cards before) (both l) ≡ true → both l ≡ first_both (before ++ l ∷ after)
agreed [] l after t = refl
agreed (m ∷ before) l after t = eqb-true (both l) (both m) t

agrees_back : (before : List Defence) (l : Defence) (after : List Defence) → both l ≡ first_both (before ++ l ∷ after) → agrees (first_cards before) (both l) ≡ true
agrees_back [] l after e = refl
agrees_back (m ∷ before) l after e = eq-eqb (both l) (both m) e

-- the layouts of a deal from some on
layouts_ok : (d : Deal) (n : ℕ) (before : List Defence) (s : Spot) → layouts_at n d.hand0 d.hand2 before s ≡ Ok d.layouts
    → (after : List Defence) × (d.layouts ≡ before ++ after) × (length after ≡ n) × AllByRecursion (LayoutFits d) after × (s.rest ≡ layout_texts after)
layouts_ok d zero before s e =
    let (q, f) = end_ok before d.layouts s e in
    ([], sym f ∙ sym (append-nil before), refl, tt, q)
layouts_ok d (suc n) before s e =
    let (l, a, k) = then_ok (layout_at d.hand0 d.hand2 (first_cards before) s) _ d.layouts e in
    let (u, v, t, p) = layout_ok d.hand0 d.hand2 (first_cards before) s l a in
    let (after, f, m, g, q) = layouts_ok d n (before ++ l ∷ []) (next_spot (next_spot s)) k in
    let w : d.layouts ≡ before ++ l ∷ after = f ∙ append_assoc before (l ∷ []) after in (
      l ∷ after,
      w,
      ap suc m,
      (record { first = u; third = v; same = agreed before l after t ∙ ap first_both (sym w) }, g),
      p ∙ ap (λ (ps : List (List ℕ)). hand_text l.hand1 ∷ hand_text l.hand3 ∷ ps) q,
    )

-- all of them
pub all_layouts_ok : (d : Deal) (n : ℕ) (s : Spot) → layouts_at n d.hand0 d.hand2 [] s ≡ Ok d.layouts
    → (length d.layouts ≡ n) × AllByRecursion (LayoutFits d) d.layouts × (s.rest ≡ layout_texts d.layouts)
all_layouts_ok d n s e =
    let (ls, w, m, g, q) = layouts_ok d n [] s e in
    subst (λ (xs : List Defence). (length xs ≡ n) × AllByRecursion (LayoutFits d) xs × (s.rest ≡ layout_texts xs)) (sym w) (m, g, q)

pub ok_layouts : (d : Deal) (before after : List Defence) (n b : ℕ) → 1 ≤ size d.hand0 → size d.hand0 ≤ 13
    → d.layouts ≡ before ++ after → AllByRecursion (LayoutFits d) after
    → layouts_at (length after) d.hand0 d.hand2 before (spot (layout_texts after) n b) ≡ Ok d.layouts
ok_layouts d before [] n b x y w f = ap Ok (sym (w ∙ append-nil before))
ok_layouts d before (l ∷ after) n b x y w (f, fs) =
    ok_then _ (ok_layout d (first_cards before) l (layout_texts after) n b x y f (agrees_back before l after (f.same ∙ ap first_both w)))
    (ok_layouts d (before ++ l ∷ []) after _ _ x y (w ∙ sym (append_assoc before (l ∷ []) after)) fs)
