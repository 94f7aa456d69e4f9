use Rattle.deals.specs.Dealing.{dealt_of}
use Rattle.deals.proofs.course.Course.side.Goals as goal

pub returns : goal.returns
returns c = c.side.ensures (dealt_of c.args.self.now.problem)
