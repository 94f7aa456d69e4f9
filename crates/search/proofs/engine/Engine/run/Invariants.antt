use Rattle.std.proofs.Common.{◌≡◌}
use Rattle.search.specs.Stacks.{job_of}
use Rattle.search.specs.Bounds.{search_of}
use Rattle.search.proofs.Loop.{Left}
use Rattle.search.proofs.engine.Engine.run.Given as goal

abbrev pub invariant-loop-count : goal.invariant-loop-count
invariant-loop-count g l =
    Left g.G.Score.Lattice.scoring g.G.Score.Lattice.stands g.T.Table.ops g.P.Policy.ops l.steps l.count
    (search_of g.G.Game g.T.Table g.P.Policy l.initial.self l.initial.stack l.initial.progress)
    (search_of g.G.Game g.T.Table g.P.Policy l.self l.stack l.progress)
    × (job_of l.stack ≡ job_of l.initial.stack)
