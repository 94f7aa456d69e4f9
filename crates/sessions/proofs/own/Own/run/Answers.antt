use Rattle.analyst.specs.Model.{state_of, stack_of}
use Rattle.analyst.proofs.Own.{ran_mine}
use Rattle.sessions.proofs.Owned.{mine, own}
use Rattle.sessions.proofs.own.Own.run.Goals as goal

pub invariant_of-self : goal.invariant_of-self
invariant_of-self g c =
    let s = c.args.self.now in
    record {
      mine =
          own
          (ran_mine g.G.Score.Lattice.scoring g.G.Score.Lattice.stands g.T.Table.ops g.P.Policy.ops (state_of s.analyst.now) s.ticket (stack_of s.stack.now) c.args.steps
          (mine _ _ _ s.mine) _ _ c.run.ensures.leaves c.run.ensures.stack);
    }
