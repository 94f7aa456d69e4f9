use Rattle.findings.proofs.Lawful.{answer_right}
use Rattle.findings.proofs.answer.Goals as goal

pub returns : goal.returns
returns c = record { text = c.text.ensures; right = answer_right c.args.number c.args.line.now }
