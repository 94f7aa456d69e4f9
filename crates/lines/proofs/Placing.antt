-- Every fault that the reader answers is at the byte where its field begins.
use Rattle.std.proofs.Common.{◌≡◌, ℕ, zero, suc, ◌+◌, ◌<◌, ◌≤◌, Bool, true, false, cond, eqb, List, [], ◌∷◌, ◌++◌, length, drop, Some, None, Ok, Err, Option, Result, sym, refl, ap, ◌∙◌, subst, add-one, arith, bit_and, bit_or}
use Rattle.lines.specs.declared.fault.Fault.{Fault}
use Rattle.lines.specs.declared.fault.FaultKind.{FaultKind}
use Rattle.lines.specs.declared.fault.FaultKind.TheVariants.{Kind, Value, Hand}
use Rattle.lines.specs.Fields.{Spot, split, start, next_spot, past}
use Rattle.lines.specs.Spelling.{trump_of, leader_of, target_of, count_of, hand_of, size}
use Rattle.lines.specs.Deals.{Deal, Defence}
use Rattle.lines.specs.Reading.{fault_at, then, or_fault, first_as, field, hand_at, first_cards, agrees, layout_at, nothing_left, end_at, layouts_at, tricks_at, plan_at, by_letter, by_kind, read_line}
use Rattle.lines.proofs.Accepts.{err_ok, then_ok}
use Rattle.lines.specs.Places.{begins_after, AtField, Placed}

-- one field more
further : (ps : List (List ℕ)) (k : ℕ) (p : List ℕ) (qs : List (List ℕ)) → p ∷ qs ≡ drop k ps
    → (k < length ps) × (qs ≡ drop (k + 1) ps) × (begins_after ps (k + 1) ≡ begins_after ps k + (length p + 1))
further ps k p qs e = rw add-one (go ps k e)
  where
    go : (ps : List (List ℕ)) (k : ℕ) → p ∷ qs ≡ drop k ps
        → (k < length ps) × (qs ≡ drop (suc k) ps) × (begins_after ps (suc k) ≡ begins_after ps k + (length p + 1))
    go [] zero e = let z : ◌≡◌ {A = ℕ} 0 1 = cc in absurd (omega arith)
    go [] (suc k) e = let z : ◌≡◌ {A = ℕ} 0 1 = cc in absurd (omega arith)
    go (x ∷ xs) zero e = let w : length p ≡ length x = cc in (omega arith, cc, omega arith)
    go (x ∷ xs) (suc k) e = let (a, b, c) = go xs k e in (omega arith, b, omega arith)

module _ (line : List ℕ) where
  -- a spot of the line: so many fields are passed
  pub record Standing (s : Spot) : Type 0 where
    pub passed : ℕ
    pub within : passed ≤ length (split line)
    pub number : s.number ≡ passed + 1
    pub rest : s.rest ≡ drop passed (split line)
    pub byte : s.byte ≡ begins_after (split line) passed

  -- a result whose fault, if it is one, is placed right
  abbrev pub RightPlace : {T : Type 0} → Result T Fault → Type 0
  RightPlace (Ok x) = Unit {0}
  RightPlace (Err f) = AtField line f

  at_spot : (k : FaultKind) (s : Spot) → Standing s → AtField line (fault_at k s)
  at_spot k s h = record { before = h.passed; within = h.within; field = h.number; byte = h.byte }

  -- past a field
  next_standing : (s : Spot) (p : List ℕ) (qs : List (List ℕ)) → s.rest ≡ p ∷ qs → Standing s → Standing (next_spot s)
  next_standing s p qs e h =
      let (l, r, b) = further (split line) h.passed p qs (sym e ∙ h.rest) in
      subst (λ (ps : List (List ℕ)). Standing (past ps s.number s.byte)) (sym e)
      (record {
        passed = h.passed + 1;
        within = omega arith;
        number = ap (λ (n : ℕ). n + 1) h.number;
        rest = r;
        byte = ap (λ (n : ℕ). n + (length p + 1)) h.byte ∙ sym b;
      })

  -- what is read at a spot: a fault is placed right, and otherwise there was a field
  pub record Reads {T : Type 0} (s : Spot) (r : Result T Fault) : Type 0 where
    pub fault : RightPlace r
    pub goes : (x : T) → r ≡ Ok x → Standing (next_spot s)

  field_reads : {T : Type 0} (read : List ℕ → Option T) (bad : FaultKind) (s : Spot) → Standing s → Reads s (field read bad s)
  field_reads {T} read bad s h = record { fault = fault s.rest; goes = λ x. goes s.rest refl x }
    where
      at_fault : (o : Option T) → RightPlace (or_fault o (fault_at bad s))
      at_fault None = at_spot bad s h
      at_fault (Some x) = tt

      fault : (ps : List (List ℕ)) → RightPlace (first_as read bad ps s)
      fault [] = at_spot _ s h
      fault (p ∷ ps) = at_fault (read p)

      goes : (ps : List (List ℕ)) → s.rest ≡ ps → (x : T) → first_as read bad ps s ≡ Ok x → Standing (next_spot s)
      goes [] e x f = absurd (err_ok _ x f)
      goes (p ∷ ps) e x f = next_standing s p ps e h

  -- going on
  after : {T U : Type 0} (r : Result T Fault) (k : T → Result U Fault) → RightPlace r → ((x : T) → r ≡ Ok x → RightPlace (k x)) → RightPlace (then r k)
  after (Ok x) k h f = f x refl
  after (Err e) k h f = h

  going : {T U : Type 0} {s : Spot} {r : Result T Fault} (k : T → Result U Fault) → Reads s r → ((x : T) → Standing (next_spot s) → RightPlace (k x)) → RightPlace (then r k)
  going {r = r} k h f = after r k h.fault (λ x e. f x (h.goes x e))

  tested : {T : Type 0} (t : Bool) (r : Result T Fault) (k : FaultKind) (s : Spot) → Standing s → RightPlace r → RightPlace (cond t r (Err (fault_at k s)))
  tested true r k s h f = f
  tested false r k s h f = at_spot k s h

  hand_reads : (n earlier : ℕ) (s : Spot) → Standing s → Reads s (hand_at n earlier s)
  hand_reads n earlier s h =
      record {
        fault = after (field hand_of Hand s) _ inner.fault
            (λ x e. tested (eqb (size x) n) _ _ s h (tested (eqb (bit_and x earlier) 0) (Ok x) _ s h tt));
        goes = λ x e. let (y, f, g) = then_ok (field hand_of Hand s) _ x e in inner.goes y f;
      }
    where
      inner : Reads s (field hand_of Hand s)
      inner = field_reads hand_of Hand s h

  end_right : {T : Type 0} (x : T) (s : Spot) → Standing s → RightPlace (end_at x s)
  end_right {T} x s h = go s.rest
    where
      go : (ps : List (List ℕ)) → RightPlace (nothing_left ps s x)
      go [] = tt
      go (p ∷ ps) = at_spot _ s h

  module _ (h0 h2 : ℕ) where
    layout_right : (first : Option ℕ) (s : Spot) → Standing s → RightPlace (layout_at h0 h2 first s)
    layout_right first s h =
        let one = hand_reads (size h0) (bit_or h0 h2) s h in
        after (hand_at (size h0) (bit_or h0 h2) s) _ one.fault (λ h1 e.
        let k = one.goes h1 e in
        let two = hand_reads (size h0) (bit_or (bit_or h0 h2) h1) (next_spot s) k in
        after (hand_at (size h0) (bit_or (bit_or h0 h2) h1) (next_spot s)) _ two.fault (λ h3 f.
        tested (agrees first (bit_or h1 h3)) (Ok (record { hand1 = h1; hand3 = h3 })) _ (next_spot s) k tt))

    layout_goes : (first : Option ℕ) (s : Spot) (l : Defence) → Standing s → layout_at h0 h2 first s ≡ Ok l → Standing (next_spot (next_spot s))
    layout_goes first s l h e =
        let one = hand_reads (size h0) (bit_or h0 h2) s h in
        let (h1, a, b) = then_ok (hand_at (size h0) (bit_or h0 h2) s) _ l e in
        let two = hand_reads (size h0) (bit_or (bit_or h0 h2) h1) (next_spot s) (one.goes h1 a) in
        let (h3, c, d) = then_ok (hand_at (size h0) (bit_or (bit_or h0 h2) h1) (next_spot s)) _ l b in
        two.goes h3 c

    layouts_right : (n : ℕ) (so_far : List Defence) (s : Spot) → Standing s → RightPlace (layouts_at n h0 h2 so_far s)
    layouts_right zero so_far s h = end_right so_far s h
    layouts_right (suc n) so_far s h =
        after (layout_at h0 h2 (first_cards so_far) s) _ (layout_right (first_cards so_far) s h)
        (λ l e. layouts_right n (so_far ++ (l ∷ [])) (next_spot (next_spot s)) (layout_goes (first_cards so_far) s l h e))

  tricks_right : (s : Spot) → Standing s → RightPlace (tricks_at s)
  tricks_right s h =
      going _ (field_reads trump_of Value s h) (λ trump h. going _ (field_reads leader_of Value _ h) (λ leader h.
      going _ (field_reads hand_of Hand _ h) (λ h0 h. going _ (hand_reads (size h0) h0 _ h) (λ h1 h.
      going _ (hand_reads (size h0) (bit_or h0 h1) _ h) (λ h2 h. going _ (hand_reads (size h0) (bit_or (bit_or h0 h1) h2) _ h) (λ h3 h.
      end_right _ _ h))))))

  plan_right : (s : Spot) → Standing s → RightPlace (plan_at s)
  plan_right s h =
      going _ (field_reads trump_of Value s h) (λ trump h. going _ (field_reads leader_of Value _ h) (λ leader h.
      going _ (field_reads target_of Value _ h) (λ target h. going _ (field_reads hand_of Hand _ h) (λ h0 h.
      going _ (hand_reads (size h0) h0 _ h) (λ h2 h. going _ (field_reads count_of Value _ h) (λ n h.
      after (layouts_at n h0 h2 [] _) _ (layouts_right h0 h2 n [] _ h) (λ ls e. tt)))))))

  first_standing : Standing (start line)
  first_standing = record { passed = 0; within = omega arith; number = refl; rest = refl; byte = refl }

  letter_right : (s : Spot) (b : ℕ) → Standing s → Standing (next_spot s) → RightPlace (by_letter s b)
  letter_right s b h k = go (eqb b 68) (eqb b 80)
    where
      go : (d p : Bool) → RightPlace (cond d (tricks_at (next_spot s)) (cond p (plan_at (next_spot s)) (Err (fault_at Kind s))))
      go true p = tricks_right (next_spot s) k
      go false true = plan_right (next_spot s) k
      go false false = at_spot Kind s h

  kind_right : (ps : List (List ℕ)) (s : Spot) → s.rest ≡ ps → Standing s → RightPlace (by_kind ps s)
  kind_right [] s e h = at_spot _ s h
  kind_right ([] ∷ ps) s e h = at_spot _ s h
  kind_right ((b ∷ []) ∷ ps) s e h = letter_right s b h (next_standing s (b ∷ []) ps e h)
  kind_right ((b ∷ c ∷ bs) ∷ ps) s e h = at_spot _ s h

  placed : RightPlace (read_line line)
  placed = kind_right (split line) (start line) refl first_standing

-- the answer's fault is placed right
pub faults_placed : (line : List ℕ) → Placed line (read_line line)
faults_placed line = go (read_line line) (placed line)
  where
    go : (r : Result Deal Fault) → RightPlace line r → Placed line r
    go (Ok d) h = tt
    go (Err f) h = h
