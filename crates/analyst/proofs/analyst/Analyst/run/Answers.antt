use Rattle.analyst.proofs.Bounds.{run_right}
use Rattle.analyst.proofs.analyst.Analyst.run.Goals as goal

pub returns-clause-right : goal.returns-clause-right
returns-clause-right g c =
    run_right c.args.self.now g.met.G.Game.lawful _ c.args.stack.now _ _ c.go_on.ensures.answer
