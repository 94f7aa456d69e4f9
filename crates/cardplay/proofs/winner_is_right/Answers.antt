use Rattle.cardplay.proofs.Tricks.{trick_theorem}
use Rattle.cardplay.proofs.Winning.{winner_theorem}
use Rattle.cardplay.proofs.winner_is_right.Goals as goal

pub returns : goal.returns
returns c = record { alone = winner_theorem; played = trick_theorem }
