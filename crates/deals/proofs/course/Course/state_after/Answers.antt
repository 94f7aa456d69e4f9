use Rattle.cards.specs.Codes.{card_code}
use Rattle.cardplay.proofs.Reach.{legal_unplayed}
use Rattle.deals.specs.Dealing.{dealt_of}
use Rattle.deals.specs.States.{play_of}
use Rattle.deals.specs.CoursesLemmas.{course_won, free, goes_on_legal}
use Rattle.deals.proofs.course.Course.state_after.Goals as goal

pub after-requires : goal.after-requires
after-requires c =
    let s = c.args.self.now in
    (legal_unplayed (dealt_of s.problem) (play_of s.present) (card_code c.args.card) c.requires, course_won s)

pub returns : goal.returns
returns c =
    let s = c.args.self.now in
    let x = card_code c.args.card in
    record {
      comes = c.after.ensures;
      room = free s x c.requires;
      legal =
          λ qs e. goes_on_legal (dealt_of s.problem) (play_of s.present) (play_of c.after.result) s.past qs x c.requires
          c.after.ensures e s.legal;
    }
