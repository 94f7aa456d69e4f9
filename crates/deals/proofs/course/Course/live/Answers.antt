use Rattle.std.proofs.Common.{refl}
use Rattle.deals.specs.CoursesLemmas.{course_live}
use Rattle.deals.proofs.course.Course.live.Goals as goal

pub returns : goal.returns
returns c = record { value = refl; bound = course_live c.args.self.now }
