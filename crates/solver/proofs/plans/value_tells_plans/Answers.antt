use Rattle.solver.proofs.PlanCalls.{plan_promised}
use Rattle.solver.proofs.plans.value_tells_plans.Goals as goal

pub returns : goal.returns
returns g c = plan_promised g.T.Table.ops g.P.Policy.ops g.T.Table.laws g.P.Policy.laws
