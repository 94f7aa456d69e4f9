use Rattle.cards.specs.Codes.{card_code}
use Rattle.deals.specs.Dealing.{dealt_of}
use Rattle.deals.specs.States.{play_of}
use Rattle.deals.proofs.Choices.{legal_at}
use Rattle.deals.proofs.course.Course.play.Goals as goal

pub put-requires : goal.put-requires
put-requires c =
    let s = c.args.self.now in
    let h = c.in-Some.ensures in
    legal_at (dealt_of s.problem) (play_of s.present) c.args.place (card_code c.in-Some.card) h.0 h.1
