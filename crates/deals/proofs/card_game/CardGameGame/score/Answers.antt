use Rattle.deals.specs.Games.{game_stand}
use Rattle.deals.proofs.Lines.{line_on}
use Rattle.deals.proofs.card_game.CardGameGame.score.Goals as goal

pub returns-then-not-is_over : goal.returns-then-not-is_over
returns-then-not-is_over g c =
    let x = c.args.self.now in
    let s = game_stand x in line_on (g.A.Aim.worth x.aim) s.deal s.present c.if-not-is_over.ensures
