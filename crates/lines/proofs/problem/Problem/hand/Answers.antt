use Rattle.std.proofs.Common.{rules}
use Rattle.lines.specs.Problems.{deal}
use Rattle.lines.specs.Seats.{seat_number}
use Rattle.lines.proofs.Listed.{listed_hand, listed_past}
use Rattle.lines.proofs.problem.Problem.hand.Goals as goal

pub returns-then-layout-self : goal.returns-then-layout-self
returns-then-layout-self c =
    let p = c.args.self.now.parts in
    listed_past (deal p) (seat_number c.args.seat) p.layouts p.count c.args.layout (search rules)

pub returns : goal.returns
returns c =
    let p = c.args.self.now.parts in
    listed_hand (deal p) (seat_number c.args.seat) p.layouts p.count c.args.layout c.beside.result.bits c.index-self-layout.result
    (search rules) (search rules) c.index-self-layout.is (search rules)
