use Rattle.deals.specs.Dealing.{dealt_of}
use Rattle.deals.specs.CoursesLemmas.{course_won, course_live}
use Rattle.deals.proofs.course.Course.key.Goals as goal

pub key-requires : goal.key-requires
key-requires c = (course_won c.args.self.now, course_live c.args.self.now)

pub returns : goal.returns
returns c = c.key.ensures (dealt_of c.args.self.now.problem)
