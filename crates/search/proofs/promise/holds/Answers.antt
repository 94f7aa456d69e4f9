use Rattle.search.proofs.Finish.{promise_of}
use Rattle.search.proofs.promise.holds.Goals as goal

pub returns : goal.returns
returns g c = promise_of g.G.Score.Lattice g.T.Table g.P.Policy
