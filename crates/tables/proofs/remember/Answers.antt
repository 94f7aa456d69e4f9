use Rattle.tables.proofs.Memory.{remembered}
use Rattle.tables.proofs.remember.Goals as goal

pub returns : goal.returns
returns g c =
    let t = g.T.Table in
    record { leaves = c.put.ensures; answers = remembered t.ops t.laws _ _ c.args.claim c.put.ensures }
