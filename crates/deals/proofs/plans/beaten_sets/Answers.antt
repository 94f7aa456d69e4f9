use Rattle.std.proofs.Common.{◌≡◌, ◌∙◌}
use Rattle.lattice.specs.FamilyScores.{family_of}
use Rattle.cardplay.specs.PlanScores.{plan_family}
use Rattle.deals.specs.Dealing.{dealt_of}
use Rattle.deals.specs.States.{play_of}
use Rattle.deals.proofs.Values.{plan_value, beaten}
use Rattle.deals.proofs.plans.beaten_sets.Goals as goal

pub returns : goal.returns
returns c =
    let g = c.args.game.now in
    let d = dealt_of g.course.problem in
    let p = play_of g.course.present in
    let v : family_of c.evaluate.result.value ≡ plan_family d g.aim.0 p = c.evaluate.ensures.value ∙ plan_value d g.aim.0 p in
    record { value = v; plans = beaten g.course g.aim.0 _ v; positions = c.evaluate.ensures.positions; same = c.evaluate.ensures.same }
