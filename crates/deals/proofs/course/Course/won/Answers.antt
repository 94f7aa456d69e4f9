use Rattle.std.proofs.Common.{refl}
use Rattle.deals.specs.CoursesLemmas.{course_won}
use Rattle.deals.proofs.course.Course.won.Goals as goal

pub returns : goal.returns
returns c = record { value = refl; bound = course_won c.args.self.now }
