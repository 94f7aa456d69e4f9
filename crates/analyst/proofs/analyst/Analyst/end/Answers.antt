use Rattle.analyst.proofs.Bounds.{end_right}
use Rattle.analyst.proofs.analyst.Analyst.end.Goals as goal

pub returns-in-Ok-clause-right : goal.returns-in-Ok-clause-right
returns-in-Ok-clause-right g c =
    end_right c.args.self.now g.met.G.Game.lawful c.args.ticket c.args.stack.now _ _ c.in-Ok.is c.close.ensures.answer
