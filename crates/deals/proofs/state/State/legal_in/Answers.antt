use Rattle.std.proofs.Common.{ℕ, bit_and, sym, ap, ◌∙◌, rules}
use Rattle.std.proofs.lemmas.Bool.{cond-true}
use Rattle.bitsets.specs.Sets.{has}
use Rattle.cardplay.specs.Cards.{hand, may_play}
use Rattle.cardplay.specs.Deals.{layout}
use Rattle.deals.specs.Dealing.{dealt_of}
use Rattle.deals.specs.States.{play_of}
use Rattle.deals.proofs.state.State.legal_in.Goals as goal

pub returns : goal.returns
returns c =
    let d = dealt_of c.args.problem.now in
    let p = play_of c.args.self.now in
    let i = c.args.place in
    c.following.ensures
    ∙ ap (λ (h : ℕ). may_play h p.trick)
    (c.intersection.ensures.value
    ∙ ap (λ (h : ℕ). bit_and h p.unplayed) (c.dealt-hand.ensures ∙ ap (hand (layout d i)) (c.to_play.ensures d)))
    ∙ sym (cond-true (has p.live i) _ 0 (search rules))
