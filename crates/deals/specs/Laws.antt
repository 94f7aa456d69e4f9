-- A card game keeps the laws of games, whatever it scores.
use Rattle.games.specs.Trees.{Lawful}
use Rattle.cardplay.specs.Cards.{Play}
use Rattle.cardplay.proofs.CardLaws.{card_lawful}
use Rattle.deals.specs.declared.course.Course.{Course}
use Rattle.deals.specs.Dealing.{dealt_of}
use Rattle.deals.specs.Stands.{stand_of, line_of}
use Rattle.deals.specs.States.{play_of}
use Rattle.deals.specs.CoursesLemmas.{valid}
use Rattle.deals.specs.Whole.{whole_deal, whole_course}

pub course_lawful : {S : Type 0} (score : Play → S) (s : Course) → Lawful (line_of score (stand_of s))
course_lawful score s =
    let d = dealt_of s.problem in
    let p = play_of s.present in
    let qs = s.past in
    card_lawful (whole_deal d (valid s.problem)) score p qs (whole_course d p qs s.legal)
