-- What an open position has found stays fair: at its start, with one more child, and when it closes.
use Rattle.std.proofs.Common.{◌≡◌, ℕ, zero, suc, ◌^◌, ◌<◌, true, true≢false, Some, sym, ◌∙◌, subst, ⊎_elim, arith, lit<}
use Rattle.std.specs.Prelude.{bit_or}
use Rattle.bitsets.specs.Sets.{has}
use Rattle.bitsets.proofs.Digits.{has_zero}
use Rattle.lattice.specs.declared.bracket.Bracket.{Bracket}
use Rattle.lattice.specs.Scores.{Scoring, Laws}
use Rattle.lattice.specs.Windows.{Under, Around}
use Rattle.lattice.proofs.Order.{Settles, u_refl, u_trans, u_left, u_right, u_join, u_meet, l_left, l_right, u_bottom, u_top, u_eq, joins_mono, meets_mono, dual}
use Rattle.games.specs.declared.key.Key.{Key}
use Rattle.games.specs.declared.side.Side.{Side}
use Rattle.games.specs.declared.side.Side.TheVariants.{Max, Min}
use Rattle.games.specs.Trees.{Tree, turn, Forest, none, also, count, place_or, plain, joined, met}
use Rattle.search.specs.declared.frame.Frame.{Frame}
use Rattle.search.specs.Steps.{start, narrowed, cut, folded}
use Rattle.search.specs.Invariant.{Fair}
use Rattle.search.proofs.Places.{added, added_small}

-- the join is above each child and the least so, and the meet is below each and the greatest so
module _ {S C : Type 0} (o : Scoring C) (st : S → C) (law : Laws o) where
  place_joined : (d : Tree S) (ts : Forest S) (p : ℕ) → p < count ts → Under o (plain o st (place_or d ts p)) (joined o st ts)
  place_joined d none p h = absurd (omega arith)
  place_joined d (also t ts) zero h = u_left o law (plain o st t) (joined o st ts)
  place_joined d (also t ts) (suc p) h =
      u_trans o law (place_joined d ts p (omega arith)) (u_right o law (plain o st t) (joined o st ts))

  joined_under : (d : Tree S) (ts : Forest S) (v : C) → ((p : ℕ) → p < count ts → Under o (plain o st (place_or d ts p)) v)
      → Under o (joined o st ts) v
  joined_under d none v h = u_bottom o law v
  joined_under d (also t ts) v h =
      u_join o law (h 0 (omega arith)) (joined_under d ts v (λ p k. h (suc p) (omega arith)))

  met_place : (d : Tree S) (ts : Forest S) (p : ℕ) → p < count ts → Under o (met o st ts) (plain o st (place_or d ts p))
  met_place d none p h = absurd (omega arith)
  met_place d (also t ts) zero h = l_left o law (plain o st t) (met o st ts)
  met_place d (also t ts) (suc p) h =
      u_trans o law (l_right o law (plain o st t) (met o st ts)) (met_place d ts p (omega arith))

  under_met : (d : Tree S) (ts : Forest S) (v : C) → ((p : ℕ) → p < count ts → Under o v (plain o st (place_or d ts p)))
      → Under o v (met o st ts)
  under_met d none v h = u_top o law v
  under_met d (also t ts) v h =
      u_meet o law (h 0 (omega arith)) (under_met d ts v (λ p k. h (suc p) (omega arith)))

module _ {C : Type 0} (o : Scoring C) (law : Laws o) where
  -- where the window for the next child is shut, the cut's bracket settles the position's own
  pub cut_settles : (d : Side) (f : Frame C) → Under o (narrowed o d f).hi (narrowed o d f).lo → Settles o f.window (cut o d f)
  cut_settles Max f e = u_trans o law (l_right o law o.top f.window.hi) e
  cut_settles Min f e =
      u_trans o law (u_eq o law (law.meet_commutes f.found.hi f.window.hi))
      (u_trans o law e (u_left o law f.window.lo o.bottom))

module _ {S C : Type 0} (o : Scoring C) (st : S → C) (law : Laws o) where
  no_member : (p : ℕ) → has 0 p ≡ true → ⊥
  no_member p z = true≢false (sym z ∙ has_zero p)

  pub start_fair : (d : Side) (t : Tree S) (ts : Forest S) (w : Bracket C) → Fair o st d t ts w (start o d) 0
  start_fair Max t ts w = record {
    small = lit< tt;
    settles = u_trans o law (l_left o law o.bottom w.hi) (u_bottom o law (o.join w.lo o.bottom));
    bounds = (u_bottom o law (joined o st ts), λ p h z. absurd (no_member p z));
  }
  start_fair Min t ts w = record {
    small = lit< tt;
    settles = u_trans o law (u_top o law (o.meet o.top w.hi)) (u_right o law w.lo o.top);
    bounds = (u_top o law (met o st ts), λ p h z. absurd (no_member p z));
  }

  -- one more child, searched with the window that was left
  pub fold_fair : (d : Side) (t : Tree S) (ts : Forest S) (f : Frame C) (c : Bracket C) (n p : ℕ)
      → Fair o st d t ts f.window f.found n → p < count ts → p < 64
      → Around o c (plain o st (place_or t ts p)) → Settles o (narrowed o d f) c
      → Fair o st d t ts f.window (folded o (Some d) f.found c) (bit_or n (2 ^ p))
  fold_fair Max t ts f c n p y h few r e =
      let α : C = f.window.lo in
      let β : C = f.window.hi in
      let L : C = f.found.lo in
      let H : C = f.found.hi in
      record {
        small = added_small n p y.small few;
        settles =
            u_trans o law (u_eq o law (law.meet_commutes (o.join H c.hi) β ∙ law.distributes β H c.hi))
            (u_join o law
            (u_trans o law (u_eq o law (law.meet_commutes β H))
            (u_trans o law y.settles (joins_mono o law (u_refl o law α) (u_left o law L c.lo))))
            (u_trans o law (u_eq o law (law.meet_commutes β c.hi))
            (u_trans o law e (u_eq o law (law.join_associates α L c.lo)))));
        bounds = (
          u_join o law y.bounds.0 (u_trans o law r.low (place_joined o st law t ts p h)),
          λ q k a.
              ⊎_elim
              (λ x. subst (λ i. Under o (plain o st (place_or t ts i)) (o.join H c.hi)) (sym x) (u_trans o law r.high (u_right o law H c.hi)))
              (λ x. u_trans o law (y.bounds.1 q k x) (u_left o law H c.hi))
              (added n p q a),
        );
      }
  fold_fair Min t ts f c n p y h few r e =
      let α : C = f.window.lo in
      let β : C = f.window.hi in
      let L : C = f.found.lo in
      let H : C = f.found.hi in
      record {
        small = added_small n p y.small few;
        settles =
            u_trans o law
            (u_meet o law
            (u_trans o law (meets_mono o law (l_left o law H c.hi) (u_refl o law β)) y.settles)
            (u_trans o law
            (u_meet o law (u_trans o law (l_left o law (o.meet H c.hi) β) (l_right o law H c.hi))
            (u_meet o law (l_right o law (o.meet H c.hi) β) (u_trans o law (l_left o law (o.meet H c.hi) β) (l_left o law H c.hi))))
            e))
            (dual o law α L c.lo);
        bounds = (
          u_meet o law y.bounds.0 (u_trans o law (met_place o st law t ts p h) r.high),
          λ q k a.
              ⊎_elim
              (λ x. subst (λ i. Under o (o.meet L c.lo) (plain o st (place_or t ts i))) (sym x) (u_trans o law (l_right o law L c.lo) r.low))
              (λ x. u_trans o law (l_left o law L c.lo) (y.bounds.1 q k x))
              (added n p q a),
        );
      }

  -- a cut's bracket holds the value
  pub cut_around : (k : Key) (h : ℕ) (d : Side) (ts : Forest S) (f : Frame C) (n : ℕ)
      → Fair o st d (turn k h d ts) ts f.window f.found n → Around o (cut o d f) (plain o st (turn k h d ts))
  cut_around k h Max ts f n y = record { low = y.bounds.0; high = u_top o law (joined o st ts) }
  cut_around k h Min ts f n y = record { low = u_bottom o law (met o st ts); high = y.bounds.0 }

  -- and so does the bracket found from all the children
  pub full_around : (k : Key) (h : ℕ) (d : Side) (ts : Forest S) (w b : Bracket C) (n : ℕ)
      → Fair o st d (turn k h d ts) ts w b n → ((p : ℕ) → p < count ts → has n p ≡ true) → Around o b (plain o st (turn k h d ts))
  full_around k h Max ts w b n y all = record {
    low = y.bounds.0;
    high = joined_under o st law (turn k h Max ts) ts b.hi (λ p q. y.bounds.1 p q (all p q));
  }
  full_around k h Min ts w b n y all = record {
    low = under_met o st law (turn k h Min ts) ts b.lo (λ p q. y.bounds.1 p q (all p q));
    high = y.bounds.0;
  }
