-- Card games, whatever they are played for: where one stands, and its line of positions.
use Rattle.games.specs.Trees.{Line, Lawful}
use Rattle.cardplay.specs.Cards.{Play}
use Rattle.deals.specs.declared.card_game.CardGame.{CardGame}
use Rattle.deals.specs.Stands.{Stand, stand_of, line_of}
use Rattle.deals.specs.Laws.{course_lawful}

abbrev pub game_stand : {A : Type 0} → CardGame A → Stand
game_stand g = stand_of g.course

-- its line of positions, where its aim says what the last state scores
abbrev pub game_line : {A S : Type 0} → (A → Play → S) → CardGame A → Line S
game_line worth g = line_of (worth g.aim) (game_stand g)

pub game_lawful : {A S : Type 0} (worth : A → Play → S) (g : CardGame A) → Lawful (game_line worth g)
game_lawful worth g = course_lawful (worth g.aim) g.course
