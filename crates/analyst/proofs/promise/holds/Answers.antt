use Rattle.analyst.proofs.Sequences.{promised}
use Rattle.analyst.proofs.promise.holds.Goals as goal

pub returns : goal.returns
returns g c =
    promised g.G.Game.line g.G.Score.Lattice.scoring g.G.Score.Lattice.stands g.T.Table.ops g.P.Policy.ops
    g.G.Score.Lattice.laws g.met.G.Game.lawful g.T.Table.laws g.P.Policy.laws
