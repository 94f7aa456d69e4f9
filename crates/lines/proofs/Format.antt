-- The law of the format: a line is read as a deal exactly when the deal is valid and the line is its written form.
use Rattle.std.proofs.Common.{◌≡◌, ℕ, ◌<◌, ◌≤◌, Bool, true, false, cond, eqb, List, [], ◌∷◌, length, Ok, Err, codes, Option, sym, refl, ap, ◌∙◌, subst, arith, bit_or}
use Rattle.std.specs.List.{AllByRecursion}
use Rattle.std.proofs.lemmas.Bool.{eqb-true}
use Rattle.std.proofs.lemmas.Nat.{and_comm, or_comm}
use Rattle.bitsets.proofs.Digits.{or_assoc}
use Rattle.bitsets.proofs.Digits.{apart_or, or_apart_l, or_apart_r}
use Rattle.lines.specs.declared.fault.FaultKind.TheVariants.{Kind, Value, Hand as BadHand}
use Rattle.lines.specs.Fields.{Spot, split, next_spot}
use Rattle.lines.specs.Spelling.{size}
use Rattle.lines.specs.Deals.{Asked, tricks, plan, Defence, Deal, TrumpFits, HandFits, Valid}
use Rattle.lines.specs.Reading.{fault_at, layouts_at, tricks_at, plan_at, by_kind, read_line}
use Rattle.lines.specs.Written.{joined, decimal, trump_text, hand_text, layout_texts, texts, written, Right}
use Rattle.lines.proofs.Cut.{spot}
use Rattle.lines.proofs.Joined.{Plain, joined_split, split_joined}
use Rattle.lines.proofs.Letters.{trumps, leaders, targets, counts, trump_plain, number_plain}
use Rattle.lines.proofs.HandText.{Hand, hands, hand_plain}
use Rattle.lines.proofs.Accepts.{err_ok, ok_same, then_ok, ok_then, ok_field, ok_hand, field_then, hand_then, end_ok, all_layouts_ok, ok_layouts}

-- ---- hands that share no card, in one order and in another

fits_less : (n a b h : ℕ) → HandFits n (bit_or a b) h → HandFits n a h
fits_less n a b h f = record { cards = f.cards; many = f.many; apart = or_apart_l h a b f.apart }

fits_swap : (n a b h : ℕ) → HandFits n a b → HandFits n (bit_or a b) h → HandFits n (bit_or a h) b
fits_swap n a b h f g =
    record { cards = f.cards; many = f.many; apart = apart_or b a h f.apart (and_comm b h ∙ or_apart_r h a b g.apart) }

fits_last : (n a b c h : ℕ) → HandFits n (bit_or (bit_or a b) c) h → HandFits n (bit_or (bit_or a c) b) h
fits_last n a b c h f =
    let e : bit_or (bit_or a b) c ≡ bit_or (bit_or a c) b = or_assoc a b c ∙ ap (bit_or a) (or_comm b c) ∙ sym (or_assoc a c b) in
    subst (λ (x : ℕ). HandFits n x h) e f

-- ---- one layout

abbrev one_layout : Option ℕ → ℕ → ℕ → ℕ → ℕ → ℕ → Deal
one_layout trump leader h0 h1 h2 h3 =
    record { asked = tricks; trump = trump; leader = leader; hand0 = h0; hand2 = h2; layouts = record { hand1 = h1; hand3 = h3 } ∷ [] }

-- the hands in the order of the line, and as a valid deal has them
one_valid : (trump : Option ℕ) (leader h0 h1 h2 h3 : ℕ) → TrumpFits trump → leader < 4 → Hand h0 → HandFits (size h0) h0 h1
    → HandFits (size h0) (bit_or h0 h1) h2 → HandFits (size h0) (bit_or (bit_or h0 h1) h2) h3 → Valid (one_layout trump leader h0 h1 h2 h3)
one_valid trump leader h0 h1 h2 h3 t l a b c d =
    record {
      asks = refl;
      trump = t;
      leads = l;
      cards = a.cards;
      some = a.some;
      few = a.few;
      partner = fits_less (size h0) h0 h1 h2 c;
      listed = omega arith;
      six = omega arith;
      each = (record { first = fits_swap (size h0) h0 h1 h2 b c; third = fits_last (size h0) h0 h1 h2 h3 d; same = refl }, tt);
    }

-- a field and those after it
after : {p : List ℕ} {ps qs rs : List (List ℕ)} → ps ≡ p ∷ qs → qs ≡ rs → ps ≡ p ∷ rs
after {p} e f = e ∙ ap (λ (xs : List (List ℕ)). p ∷ xs) f

tricks_ok : (s : Spot) (d : Deal) → tricks_at s ≡ Ok d → Valid d × (codes "D" ∷ s.rest ≡ texts d)
tricks_ok s d e =
    let (trump, f1, r1, e1) = field_then trumps Value s _ d e in
    let s1 = next_spot s in
    let (leader, f2, r2, e2) = field_then leaders Value s1 _ d e1 in
    let s2 = next_spot s1 in
    let (h0, f3, r3, e3) = field_then hands BadHand s2 _ d e2 in
    let s3 = next_spot s2 in
    let (h1, f4, r4, e4) = hand_then (size h0) h0 s3 _ d e3 in
    let s4 = next_spot s3 in
    let (h2, f5, r5, e5) = hand_then (size h0) (bit_or h0 h1) s4 _ d e4 in
    let s5 = next_spot s4 in
    let (h3, f6, r6, e6) = hand_then (size h0) (bit_or (bit_or h0 h1) h2) s5 _ d e5 in
    let (r7, q) = end_ok (one_layout trump leader h0 h1 h2 h3) d (next_spot s5) e6 in
    subst (λ (x : Deal). Valid x × (codes "D" ∷ s.rest ≡ texts x)) q (
      one_valid trump leader h0 h1 h2 h3 f1 f2 f3 f4 f5 f6,
      ap (λ (ps : List (List ℕ)). codes "D" ∷ ps) (after r1 (after r2 (after r3 (after r4 (after r5 (after r6 r7)))))),
    )

pub tricks_valid : (s : Spot) (d : Deal) → tricks_at s ≡ Ok d → Valid d
tricks_valid s d e = (tricks_ok s d e).0

ok_tricks : (trump : Option ℕ) (leader h0 h1 h2 h3 n b : ℕ) → Valid (one_layout trump leader h0 h1 h2 h3)
    → tricks_at (spot (trump_text trump ∷ decimal leader ∷ hand_text h0 ∷ hand_text h1 ∷ hand_text h2 ∷ hand_text h3 ∷ []) n b)
    ≡ Ok (one_layout trump leader h0 h1 h2 h3)
ok_tricks trump leader h0 h1 h2 h3 n b v =
    let m = size h0 in
    let f = v.each.0.first in
    ok_then _ (ok_field trumps _ trump v.trump) (ok_then _ (ok_field leaders _ leader v.leads)
    (ok_then _ (ok_field hands _ h0 (record { cards = v.cards; some = v.some; few = v.few }))
    (ok_then _ (ok_hand m h0 h1 (hand_text h2 ∷ hand_text h3 ∷ []) _ _ v.some v.few (fits_less m h0 h2 h1 f))
    (ok_then _ (ok_hand m (bit_or h0 h1) h2 (hand_text h3 ∷ []) _ _ v.some v.few (fits_swap m h0 h2 h1 v.partner f))
    (ok_then _ (ok_hand m (bit_or (bit_or h0 h1) h2) h3 [] _ _ v.some v.few (fits_last m h0 h2 h1 h3 v.each.0.third)) refl)))))

-- ---- several layouts

abbrev planned : ℕ → Option ℕ → ℕ → ℕ → ℕ → List Defence → Deal
planned target trump leader h0 h2 ls =
    record { asked = plan target; trump = trump; leader = leader; hand0 = h0; hand2 = h2; layouts = ls }

plan_ok : (s : Spot) (d : Deal) → plan_at s ≡ Ok d → Valid d × (codes "P" ∷ s.rest ≡ texts d)
plan_ok s d e =
    let (trump, f1, r1, e1) = field_then trumps Value s _ d e in
    let s1 = next_spot s in
    let (leader, f2, r2, e2) = field_then leaders Value s1 _ d e1 in
    let s2 = next_spot s1 in
    let (target, f3, r3, e3) = field_then targets Value s2 _ d e2 in
    let s3 = next_spot s2 in
    let (h0, f4, r4, e4) = field_then hands BadHand s3 _ d e3 in
    let s4 = next_spot s3 in
    let (h2, f5, r5, e5) = hand_then (size h0) h0 s4 _ d e4 in
    let s5 = next_spot s4 in
    let (n, f6, r6, e6) = field_then counts Value s5 _ d e5 in
    let s6 = next_spot s5 in
    let (ls, a, k) = then_ok (layouts_at n h0 h2 [] s6) _ d e6 in
    let (m, each, r7) = all_layouts_ok (planned target trump leader h0 h2 ls) n s6 a in
    subst (λ (x : Deal). Valid x × (codes "P" ∷ s.rest ≡ texts x)) (ok_same (planned target trump leader h0 h2 ls) d k) (
      record {
        asks = f3;
        trump = f1;
        leads = f2;
        cards = f4.cards;
        some = f4.some;
        few = f4.few;
        partner = f5;
        listed = subst (λ (i : ℕ). 1 ≤ i) (sym m) f6.0;
        six = subst (λ (i : ℕ). i ≤ 6) (sym m) f6.1;
        each = each;
      },
      ap (λ (ps : List (List ℕ)). codes "P" ∷ ps)
          (after r1 (after r2 (after r3 (after r4 (after r5 (after (r6 ∙ ap (λ (i : ℕ). decimal i ∷ s6.rest) (sym m)) r7)))))),
    )

pub plan_valid : (s : Spot) (d : Deal) → plan_at s ≡ Ok d → Valid d
plan_valid s d e = (plan_ok s d e).0

ok_plan : (target : ℕ) (trump : Option ℕ) (leader h0 h2 : ℕ) (ls : List Defence) (n b : ℕ) → Valid (planned target trump leader h0 h2 ls)
    → plan_at (spot (trump_text trump ∷ decimal leader ∷ decimal target ∷ hand_text h0 ∷ hand_text h2 ∷ decimal (length ls) ∷ layout_texts ls) n b)
    ≡ Ok (planned target trump leader h0 h2 ls)
ok_plan target trump leader h0 h2 ls n b v =
    ok_then _ (ok_field trumps _ trump v.trump) (ok_then _ (ok_field leaders _ leader v.leads)
    (ok_then _ (ok_field targets _ target v.asks)
    (ok_then _ (ok_field hands _ h0 (record { cards = v.cards; some = v.some; few = v.few }))
    (ok_then _ (ok_hand (size h0) h0 h2 (decimal (length ls) ∷ layout_texts ls) _ _ v.some v.few v.partner)
    (ok_then _ (ok_field counts _ (length ls) (v.listed, v.six))
    (ok_then _ (ok_layouts (planned target trump leader h0 h2 ls) [] ls _ _ v.some v.few refl v.each) refl))))))

-- ---- lines

kind_ok : (ts : List (List ℕ)) (d : Deal) → by_kind ts (spot ts 1 1) ≡ Ok d → Valid d × (ts ≡ texts d)
kind_ok [] d e = absurd (err_ok _ d e)
kind_ok ([] ∷ ps) d e = absurd (err_ok _ d e)
kind_ok ((a ∷ []) ∷ ps) d e = by_d (eqb a 68) refl e
  where
    s : Spot
    s = spot ((a ∷ []) ∷ ps) 1 1

    by_p : (t : Bool) → eqb a 80 ≡ t → cond t (plan_at (next_spot s)) (Err (fault_at Kind s)) ≡ Ok d → Valid d × ((a ∷ []) ∷ ps ≡ texts d)
    by_p true q e =
        let (v, r) = plan_ok (next_spot s) d e in
        (v, ap (λ (x : ℕ). (x ∷ []) ∷ ps) (eqb-true a 80 q) ∙ r)
    by_p false q e = absurd (err_ok _ d e)

    by_d : (t : Bool) → eqb a 68 ≡ t
        → cond t (tricks_at (next_spot s)) (cond (eqb a 80) (plan_at (next_spot s)) (Err (fault_at Kind s))) ≡ Ok d → Valid d × ((a ∷ []) ∷ ps ≡ texts d)
    by_d true q e =
        let (v, r) = tricks_ok (next_spot s) d e in
        (v, ap (λ (x : ℕ). (x ∷ []) ∷ ps) (eqb-true a 68 q) ∙ r)
    by_d false q e = by_p (eqb a 80) refl e
kind_ok ((a ∷ b ∷ bs) ∷ ps) d e = absurd (err_ok _ d e)

-- a valid deal's fields are read as the deal, and have no commas
abbrev Taken : Deal → Type 0
Taken d = (by_kind (texts d) (spot (texts d) 1 1) ≡ Ok d) × (split (written d) ≡ texts d)

-- a deal with another question and other layouts
abbrev asking : Deal → Asked → List Defence → Deal
asking d asked ls =
    record { asked = asked; trump = d.trump; leader = d.leader; hand0 = d.hand0; hand2 = d.hand2; layouts = ls }

layouts_plain : (ls : List Defence) → AllByRecursion Plain (layout_texts ls)
layouts_plain [] = tt
layouts_plain (l ∷ ls) = (hand_plain l.hand1, (hand_plain l.hand3, layouts_plain ls))

ok_kind : (d : Deal) → Valid d → Taken d
ok_kind d v = go d.asked d.layouts v
  where
    go : (asked : Asked) (ls : List Defence) → Valid (asking d asked ls) → Taken (asking d asked ls)
    go tricks [] v = let e = v.asks in absurd (omega arith)
    go tricks (l ∷ []) v = (
      ok_tricks d.trump d.leader d.hand0 l.hand1 d.hand2 l.hand3 _ _ v,
      split_joined (codes "D") _ (
        (refl, tt),
        (
          trump_plain d.trump v.trump,
          (
            number_plain d.leader,
            (
              hand_plain d.hand0,
              (hand_plain l.hand1, (hand_plain d.hand2, (hand_plain l.hand3, tt))),
            ),
          ),
        ),
      ),
    )
    go tricks (l ∷ m ∷ ls) v = let e = v.asks in absurd (omega arith)
    go (plan target) ls v = (
      ok_plan target d.trump d.leader d.hand0 d.hand2 ls _ _ v,
      split_joined (codes "P") _ (
        (refl, tt),
        (
          trump_plain d.trump v.trump,
          (
            number_plain d.leader,
            (
              number_plain target,
              (hand_plain d.hand0, (hand_plain d.hand2, (number_plain (length ls), layouts_plain ls))),
            ),
          ),
        ),
      ),
    )

pub format : (line : List ℕ) → Right line (read_line line)
format line d = (there, back)
  where
    there : read_line line ≡ Ok d → Valid d × (line ≡ written d)
    there e = let (v, q) = kind_ok (split line) d e in (v, sym (joined_split line) ∙ ap joined q)

    back : Valid d × (line ≡ written d) → read_line line ≡ Ok d
    back (v, e) =
        let (k, q) = ok_kind d v in
        ap read_line e ∙ ap (λ (ts : List (List ℕ)). by_kind ts (spot ts 1 1)) q ∙ k
