-- What the scores of a position say: the tricks won, and the sets that have no live layout if the target is not won.
use Rattle.std.proofs.Common.{◌≡◌, ℕ, ◌-◌, ◌<◌, ◌≤◌, true, false, leb, ◌⊎◌, sym, ◌∙◌, inl, inr, arith}
use native.Mathlib.Nat.{min-eq_left}
use Rattle.std.proofs.lemmas.Bool.{leb-true, leb-false, cond_both, not-true, not_from_false}
use Rattle.bitsets.specs.Sets.{has, Part}
use Rattle.bitsets.proofs.Digits.{has_all, has_below, has_without}
use Rattle.bitsets.proofs.FamilyParts.{parts_of_below}
use Rattle.lattice.specs.FamilyScores.{FamilyScore, family_scoring, parts_of}
use Rattle.cardplay.specs.Cards.{Dealt, Play}
use Rattle.cardplay.specs.PlanScores.{won_score, plan_score}
use Rattle.cardplay.proofs.Reach.{Good}
use Rattle.cardplay.proofs.CardLaws.{won_few}

-- the score of the trick game is the number of tricks won
pub won_number : (d : Dealt) (p : Play) → Good d p → (won_score p).number ≡ p.won
won_number d p g = min-eq_left (won_few d p g)

-- a part of what is not live has no live layout, and the other way round
dead : (v s i : ℕ) → v < 64 → s < 64 → Part s (63 - v) → has s i ≡ true → has v i ≡ false
dead v s i hv hs f h = not-true (has v i) (sym (has_without 6 v i hv (has_below 6 s i hs h)) ∙ f i h)

not_live : (v s : ℕ) → v < 64 → s < 64 → ((i : ℕ) → has s i ≡ true → has v i ≡ false) → Part s (63 - v)
not_live v s hv hs f i h = has_without 6 v i hv (has_below 6 s i hs h) ∙ not_from_false (has v i) (f i h)

-- the target is won, or no layout of the set is live
abbrev pub Scores : ℕ → Play → ℕ → Type 0
Scores target p s = (target ≤ p.won) ⊎ ((i : ℕ) → has s i ≡ true → has p.live i ≡ false)

module _ (target : ℕ) (p : Play) (s : ℕ) (lv : p.live < 64) (ls : s < 64) where
  pub score_means : has (plan_score target p).number s ≡ true → Scores target p s
  score_means =
      cond_both (leb target p.won) family_scoring.top (parts_of (63 - p.live))
      (λ (x : FamilyScore). has x.number s ≡ true → Scores target p s)
      (λ e h. inl (leb-true target p.won e))
      (λ e h. inr (λ i a. dead p.live s i lv ls ((parts_of_below (63 - p.live) 6).only s h).0 a))

  pub means_score : Scores target p s → has (plan_score target p).number s ≡ true
  means_score w =
      cond_both (leb target p.won) family_scoring.top (parts_of (63 - p.live)) (λ (x : FamilyScore). has x.number s ≡ true)
      (λ e. has_all 64 s ls) (λ e. by e w)
    where
      by : leb target p.won ≡ false → Scores target p s → has (parts_of (63 - p.live)).number s ≡ true
      by e (inl l) = let m = leb-false target p.won e in absurd (omega arith)
      by e (inr f) = (parts_of_below (63 - p.live) 6).all s (not_live p.live s lv ls f) ls
