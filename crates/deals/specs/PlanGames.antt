-- The plan game: its target, and its line of positions.
use Rattle.std.specs.Prelude.{ℕ}
use Rattle.lattice.specs.declared.family.Family.{Family}
use Rattle.games.specs.Trees.{Line}
use Rattle.lines.specs.declared.deal.Target.{Target}
use Rattle.deals.specs.declared.card_game.CardGame.{CardGame}
use Rattle.deals.specs.Games.{game_stand}
use Rattle.deals.specs.Scores.{sets_made}
use Rattle.deals.specs.Stands.{line_of}

abbrev pub target_of : CardGame Target → ℕ
target_of g = g.aim.0

abbrev pub plan_line : CardGame Target → Line Family
plan_line g = line_of (sets_made (target_of g)) (game_stand g)
