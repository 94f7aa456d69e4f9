use Rattle.search.proofs.Ways.{way_pushed, way_full}
use Rattle.search.proofs.engine.Engine.enter.Goals as goal

pub returns-then-push : goal.returns-then-push
returns-then-push g c = record {
  state = way_pushed g.G.Score.Lattice.scoring g.G.Score.Lattice.stands g.T.Table.ops g.P.Policy.ops
      g.G.Game.line g.T.Table.model g.P.Policy.model c.args.self.now c.args.stack.now c.args.progress.now
      c.push.new.self c.enter-then-push.new.self c.args.window c.score.result c.side.result c.in-Some-side.side
      c.known.result c.opened.result c.push.result
      c.score.ensures c.in_default.is c.side.ensures c.in-Some-side.is c.known.ensures c.in_default-known.is
      c.opened.ensures c.push.ensures.told c.if-push.true c.push.ensures.frames c.push.ensures.room
      c.enter-then-push.ensures.hand c.enter-then-push.ensures.entered c.enter-then-push.ensures.used;
  job = c.push.ensures.job;
}

pub returns-else-push : goal.returns-else-push
returns-else-push g c = record {
  state = way_full g.G.Score.Lattice.scoring g.G.Score.Lattice.stands g.T.Table.ops g.P.Policy.ops
      g.G.Game.line g.T.Table.model g.P.Policy.model c.args.self.now c.args.stack.now c.args.progress.now
      c.push.new.self c.args.window c.score.result c.side.result c.in-Some-side.side
      c.known.result c.opened.result c.push.result
      c.score.ensures c.in_default.is c.side.ensures c.in-Some-side.is c.known.ensures c.in_default-known.is
      c.push.ensures.told c.if-push.false c.push.ensures.frames c.push.ensures.room;
  job = c.push.ensures.job;
}
