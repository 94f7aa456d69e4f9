-- What the games score where all cards are played, as the values that stand for the scores.
use Rattle.std.specs.Prelude.{ℕ}
use Rattle.lattice.specs.declared.family.Family.{Family}
use Rattle.lattice.specs.declared.tricks.Tricks.{Tricks}
use Rattle.cardplay.specs.Cards.{Play}
use Rattle.cardplay.specs.PlanScores.{won_score, plan_score}

-- the trick game: the tricks that seats 0 and 2 have won
abbrev pub tricks_won : Play → Tricks
tricks_won p = record { 0 = (won_score p).number }

-- the plan game: all sets of layouts if the target is won, else those without a live layout
abbrev pub sets_made : ℕ → Play → Family
sets_made target p = record { 0 = (plan_score target p).number }
