use Rattle.std.proofs.Common.{◌∙◌}
use Rattle.deals.specs.Games.{game_stand}
use Rattle.deals.proofs.Lines.{line_height}
use Rattle.deals.proofs.card_game.CardGameGame.height.Goals as goal

pub returns : goal.returns
returns g c =
    let x = c.args.self.now in let s = game_stand x in c.height.ensures ∙ line_height (g.A.Aim.worth x.aim) s.deal s.present
