use Rattle.std.proofs.Common.{refl, arith, lit<}
use Rattle.deals.specs.Dealing.{dealt_of}
use Rattle.deals.specs.States.{play_of}
use Rattle.deals.proofs.Layouts.{six, all_hands, hands_from_on}
use Rattle.deals.proofs.state.State.legal.Goals as goal

pub loop-place-init : goal.loop-place-init
unfolding hands_from_on
loop-place-init c = (refl, lit< tt)

pub returns : goal.returns
unfolding hands_from_on
returns c =
    all_hands (dealt_of c.args.problem.now) (play_of c.args.self.now) c.loop-place.place c.loop-place.cards.0
    (omega (arith, six c.args.problem.now)) c.loop-place.invariant.0
