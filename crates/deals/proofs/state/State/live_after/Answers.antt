use Rattle.std.proofs.Common.{arith}
use Rattle.cards.specs.Codes.{card_code}
use Rattle.deals.specs.Dealing.{dealt_of}
use Rattle.deals.specs.States.{play_of}
use Rattle.deals.proofs.Layouts.{next_layout}
use Rattle.deals.proofs.state.State.live_after.Goals as goal

pub loop-place-preserved : goal.loop-place-preserved
loop-place-preserved c =
    let l = c.loop-place in
    let e = c.with_legal-live.ensures in
    next_layout (dealt_of c.args.problem.now) (play_of c.args.self.now) (card_code c.args.card) l.place l.live.0 c.with_legal-live.result.0
    c.legal_in.result.bits c.legal_in.ensures (omega arith) e.added e.same l.invariant
