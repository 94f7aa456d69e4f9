-- The plain values of the games' positions are those that the theory of card play speaks of.
use Rattle.std.proofs.Common.{◌≡◌, ℕ, zero, suc, List, [], ◌∷◌, sym, refl, subst, count_ones}
use Rattle.lattice.specs.Scores.{Scoring}
use Rattle.lattice.specs.FamilyScores.{FamilyScore, family_scoring, family_of}
use Rattle.lattice.specs.TrickScores.{trick_scoring, tricks_of}
use Rattle.lattice.proofs.Codes.{code_stands}
use Rattle.lattice.specs.FamilyLaws.{family_laws}
use Rattle.lattice.specs.TrickLaws.{trick_laws}
use Rattle.games.specs.declared.key.Key.{Key}
use Rattle.games.specs.declared.side.Side.{Side}
use Rattle.games.specs.declared.side.Side.TheVariants.{Max, Min}
use Rattle.games.specs.Trees.{Tree, turn, plain, joined, met}
use Rattle.cardplay.specs.Cards.{Dealt, Play, legal_cards, after_card, card_key, side, grown, tree, position}
use Rattle.cardplay.specs.PlanScores.{won_score, plan_score, plan_family}
use Rattle.cardplay.proofs.CardLaws.{played_reached}
use Rattle.cardplay.proofs.OnePlan.{plan_theorem}
use Rattle.deals.specs.declared.course.Course.{Course}
use Rattle.deals.specs.Dealing.{dealt_of}
use Rattle.deals.specs.Plans.{Beaten}
use Rattle.deals.specs.Scores.{tricks_won, sets_made}
use Rattle.deals.specs.Stands.{stand_of}
use Rattle.deals.specs.States.{play_of}
use Rattle.deals.specs.CoursesLemmas.{valid}
use Rattle.deals.specs.Whole.{whole_deal, whole_course}

-- values that stand for scores, and the scores themselves, give a position the same plain value
module _ {S C : Type 0} (o : Scoring C) (stands : S → C) (d : Dealt) (value : Play → S) (score : Play → C) (same : (p : Play) → stands (value p) ≡ score p) where
  -- two forests of trees that have the same values, tree by tree
  module _ (f : ℕ → Tree S) (g : ℕ → Tree C) (each : (c : ℕ) → plain o stands (f c) ≡ plain o (λ c. c) (g c)) where
    join_all : (cs : List ℕ) → joined o stands (grown d value f cs) ≡ joined o (λ c. c) (grown d score g cs)
    join_all [] = refl
    join_all (c ∷ cs) = λ i. o.join (each c i) (join_all cs i)

    meet_all : (cs : List ℕ) → met o stands (grown d value f cs) ≡ met o (λ c. c) (grown d score g cs)
    meet_all [] = refl
    meet_all (c ∷ cs) = λ i. o.meet (each c i) (meet_all cs i)

    either_side : (k : Key) (n : ℕ) (x : Side) (cs : List ℕ) → plain o stands (turn k n x (grown d value f cs)) ≡ plain o (λ c. c) (turn k n x (grown d score g cs))
    either_side k n Max cs = join_all cs
    either_side k n Min cs = meet_all cs

  same_plain : (n : ℕ) (p : Play) → plain o stands (tree d value n p) ≡ plain o (λ c. c) (tree d score n p)
  same_plain zero p = same p
  same_plain (suc n) p =
      either_side (λ c. tree d value n (after_card d p c)) (λ c. tree d score n (after_card d p c)) (λ c. same_plain n (after_card d p c))
      (card_key d p) (suc n) (side d p) (legal_cards d p)

-- the trick game's value
pub trick_value : (d : Dealt) (p : Play) → plain trick_scoring tricks_of (position d tricks_won p) ≡ plain trick_scoring (λ c. c) (position d won_score p)
trick_value d p =
    same_plain trick_scoring tricks_of d tricks_won won_score (λ q. code_stands trick_scoring trick_laws (won_score q) (won_score q).number refl) (count_ones p.unplayed) p

-- the plan game's value
pub plan_value : (d : Dealt) (target : ℕ) (p : Play) → plain family_scoring family_of (position d (sets_made target) p) ≡ plan_family d target p
plan_value d target p =
    same_plain family_scoring family_of d (sets_made target) (plan_score target)
    (λ q. code_stands family_scoring family_laws (plan_score target q) (plan_score target q).number refl) (count_ones p.unplayed) p

-- so that it has exactly the sets of layouts in each of which one plan makes the target
pub beaten : (s : Course) (target : ℕ) (v : FamilyScore) → v ≡ plan_family (stand_of s).deal target (stand_of s).present → Beaten (stand_of s) target v
beaten s target v e =
    let d = dealt_of s.problem in
    let p = play_of s.present in
    let qs = s.past in
    subst (Beaten (stand_of s) target) (sym e)
    (plan_theorem d (whole_deal d (valid s.problem)) target p (played_reached d p qs (whole_course d p qs s.legal)))
