-- The plan theorem: what the value of a position in the plan game says.
use Rattle.std.specs.Prelude.{◌≡◌, ℕ, ◌<◌, true, ◌↔◌}
use Rattle.bitsets.specs.Sets.{has}
use Rattle.cardplay.specs.Cards.{Dealt, Play}
use Rattle.cardplay.specs.Plans.{OnePlan}
use Rattle.cardplay.specs.Deals.{ValidDeal, Reached}
use Rattle.cardplay.specs.PlanScores.{plan_family}

-- in every position reached from a valid deal's first, the value has a set of layouts
-- exactly if one plan makes the target in each layout of the set
abbrev pub PlanTheorem : Type 0
PlanTheorem =
    (d : Dealt) → ValidDeal d → (target : ℕ) (p : Play) → Reached d p → (set : ℕ) → set < 64
    → (has (plan_family d target p).number set ≡ true) ↔ OnePlan d target p set
