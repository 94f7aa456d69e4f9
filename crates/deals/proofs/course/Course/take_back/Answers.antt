use Rattle.deals.specs.Dealing.{dealt_of}
use Rattle.deals.specs.States.{play_of}
use Rattle.deals.specs.CoursesLemmas.{goes_back}
use Rattle.deals.proofs.course.Course.take_back.Goals as goal

pub invariant_of-self-2 : goal.invariant_of-self-2
invariant_of-self-2 c =
    let s = c.args.self.now in
    record {
      legal =
          goes_back (dealt_of s.problem) (play_of s.present) (play_of c.in-Some.before) c.pop.new.self s.past c.in-Some.ensures
          s.legal;
    }
