-- Any number of steps.
use Rattle.std.proofs.Common.{◌≡◌, ℕ, zero, suc, ◌+◌, ◌-◌, ◌*◌, ◌^◌, ◌≤◌, min, Bool, true, false, cond, List, length, sym, refl, ap, ◌∙◌, true≢false, arith}
use Rattle.lattice.specs.declared.bracket.Bracket.{Bracket}
use Rattle.lattice.specs.Scores.{Scoring, Laws}
use Rattle.games.specs.Trees.{Tree, Line, Lawful}
use Rattle.tables.specs.Tables.{TableOps, TableLaws}
use Rattle.policies.specs.Policies.{PolicyOps, PolicyLaws}
use Rattle.search.specs.declared.frame.Frame.{Frame}
use Rattle.search.specs.declared.frame.Hand.{Hand}
use Rattle.search.specs.declared.frame.Hand.TheVariants.{Enter, Holding, Nothing}
use Rattle.search.specs.Steps.{Search, enters, finished, stepped, ran, done, entries}
use Rattle.search.specs.Invariant.{Invariant, ahead, phase, to_do}
use Rattle.search.specs.Promises.{Went}
use Rattle.search.proofs.Forests.{size_some}
use Rattle.search.proofs.Kept.{stepped_kept}

module _ {S C : Type 0} where
  some_left : (t : Tree S) (us : List (Tree S)) (fs : List (Frame C)) (h : Hand C) → 1 ≤ 4 * ahead t us fs h + 2 * length fs + phase h
  some_left t us fs (Enter w) = omega (arith, size_some t)
  some_left t us fs (Holding b) = omega arith
  some_left t us fs Nothing = omega arith

module _ {S C M P : Type 0} where
  pub to_do_some : (s : Search S C M P) → 1 ≤ to_do s
  to_do_some s = some_left s.line.present s.line.earlier s.frames s.hand

module _ {S C M P : Type 0} (o : Scoring C) (st : S → C) (tb : TableOps M) (ch : PolicyOps P)
    (law : Laws o) (tl : TableLaws tb) (pl : PolicyLaws ch) (base : Line S) (w₀ : Bracket C) (ok : Lawful base) where
  abbrev Goes : ℕ → Type 0
  Goes n =
      (s : Search S C M P) → Invariant o st tb base w₀ s
      → Went o st tb base w₀ n (entries o st tb ch n s) s (ran o st tb ch n s)

  once_more : (n : ℕ) → Goes n → (s : Search S C M P) → Invariant o st tb base w₀ s → (b : Bool) → finished s ≡ b
      → Went o st tb base w₀ (suc n) (cond b 0 (enters s.hand + entries o st tb ch n (stepped o st tb ch s))) s
      (cond b s (ran o st tb ch n (stepped o st tb ch s)))
  once_more n go s r true e = record {
    keeps = r;
    few = omega arith;
    falls = λ q. absurd (true≢false (sym e ∙ q));
    told = λ x q. q ∙ ap (λ z. min z (2 ^ 64 - 1)) (omega arith);
    stays = λ q. q;
  }
  once_more n go s r false e =
      let k = stepped_kept o st tb ch law tl pl base w₀ ok s r e in
      let g = go (stepped o st tb ch s) k.keeps in
      record {
        keeps = g.keeps;
        few = omega (arith, k.few, g.few);
        falls = λ q. omega (arith, k.falls, g.falls q);
        told = λ x q. g.told (x + enters s.hand) (k.told x q) ∙ ap (λ z. min z (2 ^ 64 - 1)) (omega arith);
        stays = λ q. absurd (true≢false (sym q ∙ e));
      }

  pub went : (n : ℕ) → Goes n
  went zero s r = record {
    keeps = r;
    few = omega arith;
    falls = λ q. omega arith;
    told = λ x q. q ∙ ap (λ z. min z (2 ^ 64 - 1)) (omega arith);
    stays = λ q. q;
  }
  went (suc n) s r = once_more n (went n) s r (finished s) refl

module _ {S C M P : Type 0} (o : Scoring C) (st : S → C) (tb : TableOps M) (ch : PolicyOps P) where
  steps_more : (n : ℕ) (s z : Search S C M P) (d : ℕ) (b : Bool) → finished s ≡ b → (d ≤ n) × (finished z ≡ false → d ≡ n)
      → (cond b 0 (suc d) ≤ suc n) × (finished (cond b s z) ≡ false → cond b 0 (suc d) ≡ suc n)
  steps_more n s z d true e r = (omega arith, λ q. absurd (true≢false (sym e ∙ q)))
  steps_more n s z d false e r = (omega (arith, r.0), λ q. ap suc (r.1 q))

  -- the steps done are at most those granted, and all of them where the search is not finished
  pub did : (n : ℕ) (s : Search S C M P) → (done o st tb ch n s ≤ n) × (finished (ran o st tb ch n s) ≡ false → done o st tb ch n s ≡ n)
  did zero s = (omega arith, λ q. refl)
  did (suc n) s =
      let z : Search S C M P = stepped o st tb ch s in
      steps_more n s (ran o st tb ch n z) (done o st tb ch n z) (finished s) refl (did n z)
