use Rattle.cardplay.proofs.OnePlan.{plan_theorem}
use Rattle.cardplay.proofs.value_tells_plans.Goals as goal

pub returns : goal.returns
returns c = plan_theorem
