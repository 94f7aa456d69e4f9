use Rattle.std.proofs.Common.{◌≡◌, Ok, sym, ap, ◌∙◌, subst, rules}
use Rattle.lines.specs.Places.{Placed}
use Rattle.lines.specs.Problems.{deal}
use Rattle.lines.specs.Reading.{read_line}
use Rattle.lines.specs.Told.{deal_of, on_ok}
use Rattle.lines.specs.Written.{Right}
use Rattle.lines.proofs.Format.{format}
use Rattle.lines.proofs.Placing.{faults_placed}
use Rattle.lines.proofs.reader.read.Goals as goal

pub returns-in_err-parts : goal.returns-in_err-parts
returns-in_err-parts c =
    let line = c.args.line.now in
    let answer : on_ok deal_of c.from_residual.result ≡ read_line line = search rules in
    record { answer = answer; law = subst (Right line) (sym answer) (format line); places = subst (Placed line) (sym answer) (faults_placed line) }

-- what is accepted is valid
pub new-requires : goal.new-requires
new-requires c = ((format c.args.line.now (deal c.in_ok-parts.parts)).0 (sym c.in_ok-parts.ensures)).0

pub returns : goal.returns
returns c =
    let line = c.args.line.now in
    let answer : Ok (deal_of c.new.result) ≡ read_line line = ap Ok c.new.ensures ∙ c.in_ok-parts.ensures in
    record { answer = answer; law = subst (Right line) (sym answer) (format line); places = subst (Placed line) (sym answer) (faults_placed line) }
