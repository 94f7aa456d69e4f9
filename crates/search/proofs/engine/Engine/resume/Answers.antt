use Rattle.std.proofs.Common.{refl}
use Rattle.search.proofs.Ways.{way_cut, way_taken, way_played, way_stuck}
use Rattle.search.proofs.engine.Engine.resume.Goals as goal

pub returns-then-is_shut : goal.returns-then-is_shut
returns-then-is_shut g c = record {
  state = way_cut g.G.Score.Lattice.scoring g.G.Score.Lattice.stands g.T.Table.ops g.P.Policy.ops
      g.G.Game.line g.T.Table.model g.P.Policy.model c.args.self.now c.args.stack.now c.args.progress.now
      c.top.result c.in-Some.frame c.side.result c.in-Some-side.side c.narrowed-window.result c.is_shut.result
      (record {
        top = c.top.ensures;
        newest = c.in-Some.is;
        side = c.side.ensures;
        turn = c.in-Some-side.is;
        window = c.narrowed-window.ensures;
        shuts = c.is_shut.ensures;
      })
      c.notice.new.self c.close.new.self c.close.new.stack c.close.new.progress c.cut.result c.depth-depth.result
      c.if-is_shut.true c.depth-depth.ensures c.notice.ensures.game c.notice.ensures.table c.notice.ensures.policy
      c.cut.ensures c.close.ensures.state;
  job = c.close.ensures.job;
}

pub returns-then-play : goal.returns-then-play
returns-then-play g c = record {
  state = way_played g.G.Score.Lattice.scoring g.G.Score.Lattice.stands g.T.Table.ops g.P.Policy.ops
      g.G.Game.line g.T.Table.model g.P.Policy.model c.args.self.now c.args.stack.now c.args.progress.now
      c.top.result c.in-Some.frame c.side.result c.in-Some-side.side c.narrowed-window.result c.is_shut.result
      (record {
        top = c.top.ensures;
        newest = c.in-Some.is;
        side = c.side.ensures;
        turn = c.in-Some-side.is;
        window = c.narrowed-window.ensures;
        shuts = c.is_shut.ensures;
      })
      (record { game = c.play.new.self; table = c.args.self.now.table; policy = c.args.self.now.policy })
      c.replace.new.self c.choose.result c.depth-depth.result c.children.result c.in-Some-choose.place c.play.result c.marked.result
      c.if-is_shut.false c.depth-depth.ensures c.children.ensures c.choose.ensures c.in-Some-choose.is
      c.play.ensures.told c.if-play.true c.play.ensures.goes refl refl
      c.marked.ensures c.replace.ensures.frames c.replace.ensures.room;
  job = c.replace.ensures.job;
}

pub returns-else-play : goal.returns-else-play
returns-else-play g c = record {
  state = way_stuck g.G.Score.Lattice.scoring g.G.Score.Lattice.stands g.T.Table.ops g.P.Policy.ops
      g.G.Game.line g.T.Table.model g.P.Policy.model c.args.self.now c.args.stack.now c.args.progress.now
      c.top.result c.in-Some.frame c.side.result c.in-Some-side.side c.narrowed-window.result c.is_shut.result
      (record {
        top = c.top.ensures;
        newest = c.in-Some.is;
        side = c.side.ensures;
        turn = c.in-Some-side.is;
        window = c.narrowed-window.ensures;
        shuts = c.is_shut.ensures;
      })
      (record { game = c.play.new.self; table = c.args.self.now.table; policy = c.args.self.now.policy })
      c.choose.result c.depth-depth.result c.children.result c.in-Some-choose.place c.play.result
      c.if-is_shut.false c.depth-depth.ensures c.children.ensures c.choose.ensures c.in-Some-choose.is
      c.play.ensures.told c.if-play.false c.play.ensures.goes refl refl;
  job = refl;
}

pub returns-in_default-choose : goal.returns-in_default-choose
returns-in_default-choose g c = record {
  state = way_taken g.G.Score.Lattice.scoring g.G.Score.Lattice.stands g.T.Table.ops g.P.Policy.ops
      g.G.Game.line g.T.Table.model g.P.Policy.model c.args.self.now c.args.stack.now c.args.progress.now
      c.top.result c.in-Some.frame c.side.result c.in-Some-side.side c.narrowed-window.result c.is_shut.result
      (record {
        top = c.top.ensures;
        newest = c.in-Some.is;
        side = c.side.ensures;
        turn = c.in-Some-side.is;
        window = c.narrowed-window.ensures;
        shuts = c.is_shut.ensures;
      })
      c.close-in_default-choose.new.self c.close-in_default-choose.new.stack c.close-in_default-choose.new.progress
      c.choose.result c.depth-depth.result c.children.result
      c.if-is_shut.false c.depth-depth.ensures c.children.ensures c.choose.ensures c.in_default-choose.is
      c.close-in_default-choose.ensures.state;
  job = c.close-in_default-choose.ensures.job;
}
