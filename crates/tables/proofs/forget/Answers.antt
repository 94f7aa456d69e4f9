use Rattle.tables.proofs.Memory.{forgotten}
use Rattle.tables.proofs.forget.Goals as goal

pub returns : goal.returns
returns g c =
    let t = g.T.Table in
    record { leaves = c.clear.ensures; answers = forgotten t.ops t.laws _ _ c.clear.ensures }
