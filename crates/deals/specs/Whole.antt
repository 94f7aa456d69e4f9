-- What a course keeps only as a proposition, in full: that its deal is valid, and that each state came by a legal card.
use Rattle.std.specs.Prelude.{◌≡◌, ℕ, zero, suc, ◌-◌, ◌^◌, ◌<◌, true, List, [], ◌∷◌, count_ones}
use Rattle.std.proofs.Math.Path.{sym, ap}
use Rattle.std.proofs.Common.{◌∙◌, subst, pow-suc, lit<, pow_pos, arith}
use Rattle.std.proofs.Math.Bool.{Bool-set}
use mathlib.Core.List.{is_set}
use Rattle.std.proofs.Math.Logic.{∥∥₁_elim, ∥∥₁_map}
use Rattle.std.proofs.Math.Nat.{ℕ_set}
use Rattle.std.proofs.Math.Bridge.{le_prop}
use Rattle.std.specs.Int.Count.{count_trailing_zeros}
use Rattle.std.proofs.Math.Pow.{pow-lt}
use Rattle.std.proofs.lemmas.Bool.{eqb-true}
use Rattle.bitsets.proofs.Digits.{has_pow, has_le, trailing_has}
use Rattle.cardplay.specs.Cards.{Dealt, Play, hand, legal, after_card}
use Rattle.cardplay.specs.Deals.{ValidDeal, layout, first_play, Played}
use Rattle.cardplay.proofs.Reach.{legal_unplayed, after_unplayed}

-- ---- the deal

pub whole_deal : (d : Dealt) → ∥ ValidDeal d ∥₁ → ValidDeal d
whole_deal d v =
    record {
      some = ∥∥₁_elim v le_prop (λ v. v.some);
      few = ∥∥₁_elim v le_prop (λ v. v.few);
      leads = ∥∥₁_elim v le_prop (λ v. v.leads);
      each = count_ones (hand (layout d 0) 0);
      each_some = ∥∥₁_elim v le_prop (λ v. let e = v.sized 0 0 v.some (lit< tt) in let l = v.each_some in omega arith);
      each_few = ∥∥₁_elim v le_prop (λ v. let e = v.sized 0 0 v.some (lit< tt) in let l = v.each_few in omega arith);
      sized = λ i k l m. ∥∥₁_elim v (ℕ_set _ _) (λ v. v.sized i k l m ∙ sym (v.sized 0 0 v.some (lit< tt)));
      small = λ i k l m. ∥∥₁_elim v le_prop (λ v. v.small i k l m);
      disjoint = λ i j k l m n o. ∥∥₁_elim v (ℕ_set _ _) (λ v. v.disjoint i j k l m n o);
      same_0 = λ i l. ∥∥₁_elim v (ℕ_set _ _) (λ v. v.same_0 i l);
      same_2 = λ i l. ∥∥₁_elim v (ℕ_set _ _) (λ v. v.same_2 i l);
      same_1_3 = λ i l. ∥∥₁_elim v (ℕ_set _ _) (λ v. v.same_1_3 i l);
    }

-- ---- the states

whole_play : (p q : Play) → ∥ p ≡ q ∥₁ → p ≡ q
whole_play p q e =
    let u = ∥∥₁_elim e (ℕ_set _ _) (ap (λ (p : Play). p.unplayed)) in
    let l = ∥∥₁_elim e (ℕ_set _ _) (ap (λ (p : Play). p.leader)) in
    let t = ∥∥₁_elim e (is_set ℕ_set _ _) (ap (λ (p : Play). p.trick)) in
    let w = ∥∥₁_elim e (ℕ_set _ _) (ap (λ (p : Play). p.won)) in
    let a = ∥∥₁_elim e (ℕ_set _ _) (ap (λ (p : Play). p.live)) in
    λ i. record { unplayed = u i; leader = l i; trick = t i; won = w i; live = a i }

below_own : (c : ℕ) → c < 2 ^ c
below_own zero = lit< tt
below_own (suc c) = let h = below_own c in let e = pow-suc 2 c in omega arith

-- the card between two states is the one that is no longer unplayed
between : Play → Play → ℕ
between q p = count_trailing_zeros q.unplayed (q.unplayed - p.unplayed)

module _ (d : Dealt) where
  found : (q p : Play) (c : ℕ) → legal d q c ≡ true → p ≡ after_card d q c → c ≡ between q p
  unfolding between
  found q p c h e =
      let x = q.unplayed in
      let b = legal_unplayed d q c h in
      let f = ap (λ (p : Play). p.unplayed) e ∙ after_unplayed d q c in
      let l = has_le x c b in
      let g : x - p.unplayed ≡ 2 ^ c = omega arith in
      let n = count_trailing_zeros x (2 ^ c) in
      let small : c < x = let m = below_own c in omega arith in
      sym (ap (count_trailing_zeros x) g ∙ eqb-true n c (sym (has_pow c n) ∙ trailing_has x (2 ^ c) (pow_pos c) (pow-lt small)))

  whole_step : (q p : Play) → ∥ ((c : ℕ) × (legal d q c ≡ true) × (p ≡ after_card d q c)) ∥₁ → (c : ℕ) × (legal d q c ≡ true) × (p ≡ after_card d q c)
  whole_step q p s = (
    between q p,
    ∥∥₁_elim s (Bool-set _ _) (λ (c, h, e). subst (λ (x : ℕ). legal d q x ≡ true) (found q p c h e) h),
    whole_play p (after_card d q (between q p)) (∥∥₁_map s (λ (c, h, e). subst (λ (x : ℕ). p ≡ after_card d q x) (found q p c h e) e)),
  )

  pub whole_course : (p : Play) (qs : List Play) → ∥ Played d p qs ∥₁ → Played d p qs
  whole_course p [] r = whole_play p (first_play d) r
  whole_course p (q ∷ qs) r = (whole_step q p (∥∥₁_map r (λ r. r.0)), whole_course q qs (∥∥₁_map r (λ r. r.1)))
