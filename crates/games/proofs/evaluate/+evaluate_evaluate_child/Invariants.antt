use Rattle.std.proofs.Common.{◌≡◌, suc, ◌*◌}
use Rattle.games.specs.Trees.{plain, size, child, height_of}
use Rattle.games.specs.Evaluations.{capped}
use Rattle.games.proofs.Values.{drawn}
use Rattle.games.proofs.Sizes.{counted}
use Rattle.games.proofs.evaluate.+evaluate_evaluate_child.Given as goal

abbrev pub decreases-evaluate : goal.decreases-evaluate
decreases-evaluate g l = suc (2 * height_of (g.G.Game.line l.game.now).present)

abbrev pub decreases-evaluate_child : goal.decreases-evaluate_child
decreases-evaluate_child g l = 2 * height_of (g.G.Game.line l.game.now).present

-- the game is as it was, and the children before the place, taken in after those found, give the whole
abbrev pub invariant-evaluate-loop-place : goal.invariant-evaluate-loop-place
invariant-evaluate-loop-place g l =
    let line = g.G.Game.line l.initial.game in
    (g.G.Game.line l.game ≡ line)
    × (drawn g.G.Score.Lattice.scoring g.G.Score.Lattice.stands l.side (child line.present) l.place
    (g.G.Score.Lattice.stands l.found.value)
    ≡ plain g.G.Score.Lattice.scoring g.G.Score.Lattice.stands line.present)
    × (counted (child line.present) l.place l.found.positions ≡ capped (size line.present))
