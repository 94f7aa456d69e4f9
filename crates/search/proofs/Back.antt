-- Taking back play by play, and how many plays a search has made.
use Rattle.std.proofs.Common.{◌≡◌, ℕ, suc, ◌+◌, ◌-◌, ◌<◌, List, [], ◌∷◌, length, sym, refl, ap, ◌∙◌, arith}
use Rattle.games.specs.Trees.{Line, after_take_back}
use Rattle.search.specs.declared.frame.Frame.{Frame}
use Rattle.search.specs.declared.frame.Hand.{Hand}
use Rattle.search.specs.declared.frame.Hand.TheVariants.{Enter, Holding, Nothing}
use Rattle.search.specs.Promises.{backs, plays}
use Rattle.search.specs.Stacks.{all_framed, handed}

module _ {S : Type 0} where
  -- one of n plays more is taken back, after i of them
  pub backs_more : (n i : ℕ) (l m : Line S) → i < n → m ≡ after_take_back l → backs (n - (i + 1)) m ≡ backs (n - i) l
  backs_more n i l m lt e =
      let z : n - i ≡ suc (n - (i + 1)) = omega arith in ap (backs (n - (i + 1))) e ∙ sym (ap (λ (k : ℕ). backs k l) z)

  pub backs_none : (n i : ℕ) (l : Line S) → n - i ≡ 0 → backs (n - i) l ≡ l
  backs_none n i l e = ap (λ (k : ℕ). backs k l) e

module _ {S C : Type 0} (st : S → C) where
  pub length_framed : (fs : List (Frame S)) → length (all_framed st fs) ≡ length fs
  length_framed [] = refl
  length_framed (f ∷ fs) = ap suc (length_framed fs)

  -- values and the scores that they stand for are as many plays away
  pub plays_framed : (h : Hand S) (fs : List (Frame S)) → plays (handed st h) (length (all_framed st fs)) ≡ plays h (length fs)
  plays_framed (Enter w) fs = length_framed fs
  plays_framed (Holding b) fs = length_framed fs
  plays_framed Nothing fs = ap (λ (n : ℕ). n - 1) (length_framed fs)
