-- Positions that are over, and that a position is over or a turn.
use Rattle.std.proofs.Common.{◌≡◌, Some, None, refl, sym}
use Rattle.std.proofs.lemmas.Option.{none-some}
use Rattle.lattice.specs.Scores.{Scoring}
use Rattle.games.specs.Trees.{Tree, over, turn, side_of, score_of, plain, size}
use Rattle.games.specs.Evaluations.{capped}

-- a position that is over has the value of its score, and no other positions
pub over_plain : {S C : Type 0} (o : Scoring C) (stands : S → C) (t : Tree S) (s : S) → score_of t ≡ Some s
    → stands s ≡ plain o stands t
over_plain o stands (over k h s') s e = cc
over_plain o stands (turn k h d ts) s e = absurd (none-some s e)

pub over_size : {S : Type 0} (t : Tree S) (s : S) → score_of t ≡ Some s → 1 ≡ capped (size t)
over_size (over k h s') s e = refl
over_size (turn k h d ts) s e = absurd (none-some s e)

-- each position has a score or a side
pub over_or_turn : {S : Type 0} (t : Tree S) → score_of t ≡ None → side_of t ≡ None → ⊥
over_or_turn (over k h s) e e' = none-some s (sym e)
over_or_turn (turn k h d ts) e e' = none-some d (sym e')
