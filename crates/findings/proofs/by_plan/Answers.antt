use Rattle.std.proofs.Common.{◌≡◌, ℕ, List, IfOk, codes, string_bytes, refl, sym, ap, ◌∙◌, subst}
use Rattle.lattice.specs.FamilyScores.{family_scoring, family_of}
use Rattle.lines.specs.declared.deal.Target.{Target}
use Rattle.lines.specs.Told.{on_ok}
use Rattle.deals.specs.Dealing.{dealt_of}
use Rattle.deals.specs.Opened.{Opened, opened, game_opened, plan_aimed}
use Rattle.deals.specs.Scores.{sets_made}
use Rattle.deals.specs.Stands.{first_stand, line_of}
use Rattle.answers.specs.Hex.{hex_text}
use Rattle.findings.specs.Findings.{solved_text}
use Rattle.findings.specs.Searched.{granted, searched}
use Rattle.findings.proofs.by_plan.Goals as goal

pub searched-requires-clause-steps : goal.searched-requires-clause-steps
unfolding granted
searched-requires-clause-steps c = refl

pub returns : goal.returns
returns c =
    let n = c.args.number in
    let p = c.args.problem in
    let start : Opened Target = record { aim = record { 0 = c.args.target }; stand = first_stand (dealt_of p) } in
    let e = ap (on_ok opened) (sym c.unwrap-game.ensures) ∙ c.new.ensures ∙ ap (λ a. game_opened plan_aimed a (dealt_of p)) c.requires in
    let first : opened c.unwrap-game.result ≡ start = cc in
    subst (λ (x : List ℕ). IfOk c.searched.result (λ s. string_bytes s ≡ x))
    (λ i. solved_text family_scoring (codes "P") hex_text n (searched family_scoring family_of (line_of (sets_made (first i).aim.0) (first i).stand) n granted)) c.searched.ensures
