use Rattle.std.proofs.Common.{◌≡◌, ℕ, ◌<◌, ◌≤◌, List, length, get_or, subst, MatchOption}
use Rattle.cards.specs.Codes.{card_code}
use Rattle.deals.specs.Dealing.{dealt_of}
use Rattle.deals.specs.States.{play_of}
use Rattle.deals.proofs.Choices.{listed_members}
use Rattle.deals.proofs.course.Course.card.Goals as goal

pub returns : goal.returns
returns c =
    let s = c.args.self.now in
    let n = c.args.place in
    subst (λ (cs : List ℕ). MatchOption c.nth.result (length cs ≤ n) (λ x. (n < length cs) × (get_or cs n 0 ≡ card_code x)))
    (listed_members (dealt_of s.problem) (play_of s.present) c.legal.result.bits c.legal.ensures) c.nth.ensures
