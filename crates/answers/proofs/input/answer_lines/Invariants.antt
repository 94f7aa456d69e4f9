use Rattle.std.proofs.Common.{string_bytes}
use Rattle.answers.specs.Lines.{Says}
use Rattle.answers.proofs.Lines.{Going}
use Rattle.answers.proofs.input.answer_lines.Given as goal

-- what is written so far, and what is left of the input
abbrev pub invariant-loop-number : goal.invariant-loop-number
invariant-loop-number g l =
    Going (Says string_bytes (goal.F-post g l.fn.answer)) (g.R.Read.remaining l.fn.input) (g.W.Write.contents l.fn.output)
    l.number (g.R.Read.remaining l.input) (g.W.Write.contents l.output)
