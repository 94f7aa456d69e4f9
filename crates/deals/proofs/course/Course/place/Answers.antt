use Rattle.cards.specs.Codes.{card_code}
use Rattle.deals.specs.Dealing.{dealt_of}
use Rattle.deals.specs.States.{play_of}
use Rattle.deals.proofs.Choices.{placed}
use Rattle.deals.proofs.course.Course.place.Goals as goal

pub returns : goal.returns
returns c =
    let s = c.args.self.now in
    placed (dealt_of s.problem) (play_of s.present) c.legal.result.bits (card_code c.args.card) c.place.result c.legal.ensures
    c.place.ensures
