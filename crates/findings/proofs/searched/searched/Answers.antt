use Rattle.std.proofs.Common.{◌≡◌, ◌-◌, ◌^◌, min, IfOk, string_bytes, Result, ap, ◌∙◌, subst}
use Rattle.deals.specs.Games.{game_line}
use Rattle.search.specs.Stacks.{all_framed}
use Rattle.analyst.specs.declared.refusal.Refusal.{Refusal}
use Rattle.solver.specs.declared.once.Solved.{Solved}
use Rattle.solver.specs.Solving.{solves, solved_of}
use Rattle.findings.specs.Findings.{solved_text}
use Rattle.findings.specs.Searched.{granted, table_ops, policy_ops, searched as search_of}
use Rattle.findings.proofs.searched.searched.Goals as goal

pub returns : goal.returns
returns g c =
    let o = g.A.Score.Lattice.scoring in
    let st = g.A.Score.Lattice.stands in
    let n = c.args.number in
    let stack = c.new-stack.ensures in
    let room = stack.room ∙ ap (λ k. min k (2 ^ 32 - 1)) c.requires.frames in
    let table = c.new-table.ensures.meaning in
    let e : solved_of st c.solve-solved.result ≡ search_of o st (game_line g.A.Aim.worth c.args.game) n granted =
    c.solve-solved.ensures.answer
    ∙ (λ i. solves o st table_ops policy_ops (game_line g.A.Aim.worth c.args.game)
    (record { own = (table i).own; below = (ap (λ t. t.below) table ∙ c.new.ensures) i })
    (c.new-2.ensures.meaning i)
    n
    (record { places = room i; job = stack.job i; frames = ap (all_framed st) stack.frames i })
    (c.requires.steps i)) in
    subst (λ (r : Result (Solved g.A.Score.Lattice.Score) Refusal). IfOk c.told.result (λ s. string_bytes s ≡ solved_text o g.A.Score.Shown.letter g.A.Score.Shown.shown n r)) e c.told.ensures
