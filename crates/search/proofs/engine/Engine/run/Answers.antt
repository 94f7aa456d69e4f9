use Rattle.std.proofs.Common.{sym, refl, ◌∙◌, arith}
use Rattle.search.specs.Stacks.{frames}
use Rattle.search.proofs.Finish.{run_keeps}
use Rattle.search.proofs.Loop.{rests_framed, left_all, left_less, left_finished, left_none}
use Rattle.search.proofs.engine.Engine.run.Goals as goal

pub loop-count-init : goal.loop-count-init
loop-count-init g c = (
  left_all g.G.Score.Lattice.scoring g.G.Score.Lattice.stands g.T.Table.ops g.P.Policy.ops c.args.steps _,
  refl,
)

pub loop-count-preserved : goal.loop-count-preserved
loop-count-preserved g c = (
  left_less g.G.Score.Lattice.scoring g.G.Score.Lattice.stands g.T.Table.ops g.P.Policy.ops c.args.steps c.loop-count.count _ _ _
      c.loop-count.invariant.0 c.loop-count-test.true
      (sym (rests_framed g.G.Score.Lattice.stands (frames c.loop-count.stack) c.loop-count.progress.hand) ∙ sym c.is_finished.ensures ∙ c.if-is_finished.false)
      c.step.ensures.state,
  c.step.ensures.job ∙ c.loop-count.invariant.1,
)

pub returns-then-is_finished : goal.returns-then-is_finished
returns-then-is_finished g c =
    let ends =
    left_finished g.G.Score.Lattice.scoring g.G.Score.Lattice.stands g.T.Table.ops g.P.Policy.ops c.args.steps c.loop-count.count _ _
    c.loop-count.invariant.0
    (sym (rests_framed g.G.Score.Lattice.stands (frames c.loop-count.stack) c.loop-count.progress.hand) ∙ sym c.is_finished.ensures ∙ c.if-is_finished.true) in
    record { state = ends.0; done = ends.1; kept = run_keeps g.G.Score.Lattice g.T.Table g.P.Policy c.args.steps _ _ ends.0; job = c.loop-count.invariant.1 }

pub returns : goal.returns
returns g c =
    let ends =
    left_none g.G.Score.Lattice.scoring g.G.Score.Lattice.stands g.T.Table.ops g.P.Policy.ops c.args.steps c.loop-count.count _ _
    c.loop-count.invariant.0 (omega arith) in
    record { state = ends.0; done = ends.1; kept = run_keeps g.G.Score.Lattice g.T.Table g.P.Policy c.args.steps _ _ ends.0; job = c.loop-count.invariant.1 }
