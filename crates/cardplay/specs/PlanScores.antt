-- What the two card games score, and the value of a position in the plan game.
use Rattle.std.specs.Prelude.{ℕ, ◌-◌, min, cond, nat_le}
use Rattle.std.proofs.Math.Nat.{min-le_right}
use Rattle.lattice.specs.FamilyScores.{FamilyScore, family_scoring, parts_of}
use Rattle.lattice.specs.TrickScores.{TrickScore}
use Rattle.games.specs.Trees.{plain}
use Rattle.cardplay.specs.Cards.{Dealt, Play, position}

-- the trick game: the tricks won, which are never more than 13
abbrev pub won_score : Play → TrickScore
won_score p = record { number = min p.won 13; few = min-le_right p.won 13 }

-- the plan game: all sets of layouts if the target is won, else those without a live layout
abbrev pub plan_score : ℕ → Play → FamilyScore
plan_score target p = cond (nat_le target p.won) family_scoring.top (parts_of (63 - p.live))

-- the value of a position in the plan game: a family of sets of layouts
abbrev pub plan_family : Dealt → ℕ → Play → FamilyScore
plan_family d target p = plain family_scoring (λ s. s) (position d (plan_score target) p)
