use Rattle.std.proofs.Common.{rules}
use Rattle.lattice.specs.Windows.{scored}
use Rattle.lattice.proofs.Order.{decision}
use Rattle.lattice.proofs.bracket.Bracket.decides.Goals as goal

pub returns : goal.returns
returns g c =
    decision g.S.Lattice.scoring g.S.Lattice.laws
    (scored g.S.Lattice.stands c.args.window) (scored g.S.Lattice.stands c.args.self)
    c.equal.result (search rules)
