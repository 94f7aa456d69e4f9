use Rattle.std.proofs.Common.{sym, ap, ◌∙◌}
use Rattle.search.specs.Stacks.{handed}
use Rattle.search.specs.Bounds.{search_of, stepped_by_of}
use Rattle.search.proofs.Finish.{step_keeps}
use Rattle.search.proofs.engine.Engine.step.Goals as goal

pub returns-in-Enter : goal.returns-in-Enter
returns-in-Enter g c =
    let s = search_of g.G.Game g.T.Table g.P.Policy c.args.self.now c.args.stack.now c.args.progress.now in
    let state =
    c.enter.ensures.state
    ∙ sym (ap (λ h. stepped_by_of g.G.Score.Lattice g.T.Table g.P.Policy s (handed g.G.Score.Lattice.stands h)) c.in-Enter.is) in
    record {
      state = state;
      kept = step_keeps g.G.Score.Lattice g.T.Table g.P.Policy s _ state;
      job = c.enter.ensures.job;
    }

pub returns-in-Holding : goal.returns-in-Holding
returns-in-Holding g c =
    let s = search_of g.G.Game g.T.Table g.P.Policy c.args.self.now c.args.stack.now c.args.progress.now in
    let state =
    c.absorb.ensures.state
    ∙ sym (ap (λ h. stepped_by_of g.G.Score.Lattice g.T.Table g.P.Policy s (handed g.G.Score.Lattice.stands h)) c.in-Holding.is) in
    record {
      state = state;
      kept = step_keeps g.G.Score.Lattice g.T.Table g.P.Policy s _ state;
      job = c.absorb.ensures.job;
    }

pub returns-in-Nothing : goal.returns-in-Nothing
returns-in-Nothing g c =
    let s = search_of g.G.Game g.T.Table g.P.Policy c.args.self.now c.args.stack.now c.args.progress.now in
    let state =
    c.resume.ensures.state
    ∙ sym (ap (λ h. stepped_by_of g.G.Score.Lattice g.T.Table g.P.Policy s (handed g.G.Score.Lattice.stands h)) c.in-Nothing.is) in
    record {
      state = state;
      kept = step_keeps g.G.Score.Lattice g.T.Table g.P.Policy s _ state;
      job = c.resume.ensures.job;
    }
