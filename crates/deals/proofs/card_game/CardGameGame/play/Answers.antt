use Rattle.std.proofs.Common.{ap, ◌∙◌}
use Rattle.deals.specs.Games.{game_stand}
use Rattle.deals.specs.Stands.{line_of}
use Rattle.deals.proofs.Lines.{line_told, line_goes}
use Rattle.deals.proofs.card_game.CardGameGame.play.Goals as goal

pub returns : goal.returns
returns g c =
    let x = c.args.self.now in
    let score = g.A.Aim.worth x.aim in
    record {
      told = c.play.ensures.told ∙ line_told score (game_stand x) c.args.place;
      goes = ap (line_of score) c.play.ensures.goes ∙ line_goes score (game_stand x) c.args.place;
    }
