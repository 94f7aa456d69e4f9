-- What a family says of plans.
use Rattle.std.specs.Prelude.{◌≡◌, ℕ, ◌<◌, true, ◌↔◌}
use Rattle.bitsets.specs.Sets.{has}
use Rattle.lattice.specs.FamilyScores.{FamilyScore}
use Rattle.cardplay.specs.Plans.{OnePlan}
use Rattle.deals.specs.Stands.{Stand}

-- the family holds a set of layouts exactly when one plan from the present position makes the target in each of them
abbrev pub Beaten : Stand → ℕ → FamilyScore → Type 0
Beaten s target f = (set : ℕ) → set < 64 → (has f.number set ≡ true) ↔ OnePlan s.deal target s.present set
