-- The order of a lattice of scores, clamps, and brackets that decide a window.
use Rattle.std.proofs.Common.{◌≡◌, Bool, true, sym, ap, ◌∙◌}
use Rattle.std.proofs.lemmas.Bool.{and_parts, and_from}
use Rattle.lattice.specs.declared.bracket.Bracket.{Bracket}
use Rattle.lattice.specs.Scores.{Scoring, Laws}
use Rattle.lattice.specs.Windows.{Under, Around, clamped, same, decided, Decision}

-- a bracket settles a window: all values in it have the same clamp there, in a form that goes through joins and meets
abbrev pub Settles : {C : Type 0} → Scoring C → Bracket C → Bracket C → Type 0
Settles s w b = Under s (s.meet b.hi w.hi) (s.join w.lo b.lo)

module _ {C : Type 0} (s : Scoring C) (law : Laws s) where
  -- the order, by the join
  pub u_refl : (a : C) → Under s a a
  u_refl a = ap (λ x. s.join a x) (sym (law.meet_absorbs a a)) ∙ law.join_absorbs a (s.join a a)

  pub u_trans : {a b c : C} → Under s a b → Under s b c → Under s a c
  u_trans {a} {b} {c} p q =
      ap (λ x. s.join a x) (sym q) ∙ sym (law.join_associates a b c) ∙ ap (λ x. s.join x c) p ∙ q

  pub u_anti : {a b : C} → Under s a b → Under s b a → a ≡ b
  u_anti {a} {b} p q = sym q ∙ law.join_commutes b a ∙ p

  pub u_eq : {a b : C} → a ≡ b → Under s a b
  u_eq {a} {b} e = ap (λ x. s.join x b) e ∙ u_refl b

  -- the join is the least above both
  pub u_left : (a b : C) → Under s a (s.join a b)
  u_left a b = sym (law.join_associates a a b) ∙ ap (λ x. s.join x b) (u_refl a)

  pub u_right : (a b : C) → Under s b (s.join a b)
  u_right a b = rw (law.join_commutes a b) (u_left b a)

  pub u_join : {a b c : C} → Under s a c → Under s b c → Under s (s.join a b) c
  u_join {a} {b} {c} p q = law.join_associates a b c ∙ ap (λ x. s.join a x) q ∙ p

  -- the order by the meet
  pub u_met : {a b : C} → Under s a b → s.meet a b ≡ a
  u_met {a} {b} p = ap (λ x. s.meet a x) (sym p) ∙ law.meet_absorbs a b

  pub met_u : {a b : C} → s.meet a b ≡ a → Under s a b
  met_u {a} {b} p = ap (λ x. s.join x b) (sym p ∙ law.meet_commutes a b) ∙ law.join_commutes (s.meet b a) b ∙ law.join_absorbs b a

  -- the meet is the greatest below both
  pub l_left : (a b : C) → Under s (s.meet a b) a
  l_left a b = law.join_commutes (s.meet a b) a ∙ law.join_absorbs a b

  pub l_right : (a b : C) → Under s (s.meet a b) b
  l_right a b = rw (law.meet_commutes a b) (l_left b a)

  pub u_meet : {a b c : C} → Under s c a → Under s c b → Under s c (s.meet a b)
  u_meet {a} {b} {c} p q =
      met_u (sym (law.meet_associates c a b) ∙ ap (λ x. s.meet x b) (u_met p) ∙ u_met q)

  -- the least and the greatest score
  pub u_bottom : (a : C) → Under s s.bottom a
  u_bottom a = law.bottom_neutral a

  pub u_top : (a : C) → Under s a s.top
  u_top a = met_u (law.meet_commutes a s.top ∙ law.top_neutral a)

  -- joins, meets and clamps keep the order
  pub joins_mono : {a b c d : C} → Under s a c → Under s b d → Under s (s.join a b) (s.join c d)
  joins_mono {a} {b} {c} {d} p q = u_join (u_trans p (u_left c d)) (u_trans q (u_right c d))

  pub meets_mono : {a b c d : C} → Under s a c → Under s b d → Under s (s.meet a b) (s.meet c d)
  meets_mono {a} {b} {c} {d} p q = u_meet (u_trans (l_left a b) p) (u_trans (l_right a b) q)

  pub clamp_mono : (w : Bracket C) {a b : C} → Under s a b → Under s (clamped s w a) (clamped s w b)
  clamp_mono w p = joins_mono (u_refl w.lo) (meets_mono p (u_refl w.hi))

  -- a ∨ x and a ∨ y meet under a ∨ (x ∧ y)
  pub dual : (a x y : C) → Under s (s.meet (s.join a x) (s.join a y)) (s.join a (s.meet x y))
  dual a x y =
      u_trans (u_eq (law.distributes (s.join a x) a y))
      (u_join (u_trans (l_right (s.join a x) a) (u_left a (s.meet x y)))
      (u_trans (u_eq (law.meet_commutes (s.join a x) y ∙ law.distributes y a x))
      (u_join (u_trans (l_right y a) (u_left a (s.meet x y)))
      (u_trans (u_eq (law.meet_commutes y x)) (u_right a (s.meet x y))))))

  -- a settled window: every value in the bracket has the clamp of its low end
  pub settled : (w b : Bracket C) (v : C) → Settles s w b → Around s b v → clamped s w b.lo ≡ clamped s w v
  settled w b v d r =
      u_anti (clamp_mono w r.low)
      (u_trans (clamp_mono w r.high)
      (u_join (u_left w.lo (s.meet b.lo w.hi))
      (u_trans (u_meet d (l_right b.hi w.hi))
      (u_trans (u_eq (law.meet_commutes (s.join w.lo b.lo) w.hi ∙ law.distributes w.hi w.lo b.lo))
      (joins_mono (l_right w.hi w.lo) (u_eq (law.meet_commutes w.hi b.lo)))))))

  -- the test for equal scores
  pub same_equal : {a b : C} → same s a b ≡ true → a ≡ b
  same_equal {a} {b} e =
      let p = and_parts (s.below a b) (s.below b a) e in u_anti ((law.orders a b).0 p.0) ((law.orders b a).0 p.1)

  pub equal_same : {a b : C} → a ≡ b → same s a b ≡ true
  equal_same {a} {b} e = and_from (s.below a b) (s.below b a) ((law.orders a b).1 (u_eq e)) ((law.orders b a).1 (u_eq (sym e)))

  -- a bracket that decides a window settles it
  pub decided_settles : (w b : Bracket C) → decided s w b ≡ true → Settles s w b
  decided_settles w b e =
      u_trans (u_right w.lo (s.meet b.hi w.hi))
      (u_trans (u_eq (sym (same_equal e))) (joins_mono (u_refl w.lo) (l_left b.lo w.hi)))

  -- what the test for it says
  pub decision : (w b : Bracket C) (r : Bool) → r ≡ decided s w b → Decision s w b r
  decision w b r t = record {
    test = t;
    ends = (λ e. same_equal (sym t ∙ e), λ e. t ∙ equal_same e);
    all = λ e v a. sym (settled w b v (decided_settles w b (sym t ∙ e)) a);
  }

  -- a bracket of one value settles every window
  pub point_settles : (w : Bracket C) (v : C) → Settles s w (record { lo = v; hi = v })
  point_settles w v = u_trans (l_left v w.hi) (u_right w.lo v)
