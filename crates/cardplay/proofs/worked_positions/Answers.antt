use Rattle.cardplay.proofs.Checking.{all_checked}
use Rattle.cardplay.proofs.worked_positions.Goals as goal

pub returns : goal.returns
returns c = all_checked
