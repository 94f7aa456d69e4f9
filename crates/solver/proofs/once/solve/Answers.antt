use Rattle.std.proofs.Common.{◌≡◌, Ok, sym, ap, ◌∙◌, subst}
use Rattle.analyst.specs.Calls.{answered}
use Rattle.analyst.specs.Model.{stack_of, end_told, handed_back}
use Rattle.analyst.proofs.Results.{same_ok}
use Rattle.solver.specs.Solving.{is_finished, meaning, finds, SolvedRight}
use Rattle.solver.proofs.Chain.{chain, ok_is}
use Rattle.solver.proofs.Right.{some_standing, finds_ends, finds_right}
use Rattle.solver.proofs.once.solve.Goals as goal

pub unwrap-ended-requires : goal.unwrap-ended-requires
unwrap-ended-requires g c =
    let o = g.G.Score.Lattice.scoring in
    let st = g.G.Score.Lattice.stands in
    let k = stack_of c.args.stack.now in
    let begun = c.in_ok-ticket.ensures in
    let run = c.run.ensures in
    let did =
    chain o st g.T.Table.ops g.P.Policy.ops (g.G.Game.line c.args.game) (g.T.Table.model c.args.table) (g.P.Policy.model c.args.policy) c.args.job c.args.steps
    g.G.Score.Lattice.laws _ k _ _ c.new-analyst.ensures c.whole.ensures begun.answer _ _ begun.leaves begun.stack _ (sym c.unwrap-ran.ensures ∙ run.answer) _ _ run.leaves run.stack in
    ok_is st c.end.result _ (c.end.ensures.answer ∙ ap (λ r. handed_back c.in_ok-ticket.ticket (answered (λ y. y.answer) r)) did.ends_is)

pub returns : goal.returns
returns g c =
    let o = g.G.Score.Lattice.scoring in
    let st = g.G.Score.Lattice.stands in
    let tb = g.T.Table.ops in
    let ch = g.P.Policy.ops in
    let l = g.G.Game.line c.args.game in
    let m = g.T.Table.model c.args.table in
    let p = g.P.Policy.model c.args.policy in
    let k = stack_of c.args.stack.now in
    let law = g.G.Score.Lattice.laws in
    let begun = c.in_ok-ticket.ensures in
    let run = c.run.ensures in
    let did =
    chain o st tb ch l m p c.args.job c.args.steps
    law _ k _ _ c.new-analyst.ensures c.whole.ensures begun.answer _ _ begun.leaves begun.stack _ (sym c.unwrap-ran.ensures ∙ run.answer) _ _ run.leaves run.stack in
    let ended = same_ok (ap (end_told st) (sym c.unwrap-ended.ensures) ∙ c.end.ensures.answer ∙ ap (λ r. handed_back c.in_ok-ticket.ticket (answered (λ y. y.answer) r)) did.ends_is) in
    let same : _ ≡ finds o st tb ch l m p k.places c.args.steps =
    ap (meaning st) c.told.ensures ∙ (λ i. record { steps = (did.ran_is i).steps; ended = ended i }) in
    record {
      answer = ap Ok same ∙ sym did.solves_is;
      right = subst (SolvedRight o st l.present c.args.steps) (sym same)
          (finds_right o st tb ch law g.T.Table.laws g.P.Policy.laws l m p k.places c.args.steps
          (g.met.G.Game.lawful c.args.game) did.high);
      ends = some_standing st _ ∙ ap is_finished same ∙ finds_ends o st tb ch l m p k.places c.args.steps;
    }
