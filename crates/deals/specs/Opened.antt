-- What a game is that is made of a problem, or why it is refused.
use Rattle.std.specs.Prelude.{Ok, Err, Result}
use Rattle.lines.specs.declared.deal.Target.{Target}
use Rattle.lines.specs.Deals.{Asked, tricks, plan}
use Rattle.lines.specs.Told.{on_ok}
use Rattle.cardplay.specs.Cards.{Dealt}
use Rattle.deals.specs.declared.card_game.CardGame.{CardGame}
use Rattle.deals.specs.declared.trick_game.MostTricks.{MostTricks}
use Rattle.deals.specs.declared.wrong.WrongGoal.{WrongGoal}
use Rattle.deals.specs.declared.wrong.WrongGoal.TheVariants.{Tricks, Plan}
use Rattle.deals.specs.Stands.{Stand, first_stand}
use Rattle.deals.specs.Games.{game_stand}

-- its aim, and where it stands
pub record Opened (A : Type 0) : Type 0 where
  pub aim : A
  pub stand : Stand

abbrev pub opened : {A : Type 0} → CardGame A → Opened A
opened g = record { aim = g.aim; stand = game_stand g }

-- the aim is the one that is set by what is asked, and the stand is at the first state of the deal
abbrev pub game_opened : {A E : Type 0} → (Asked → Result A E) → Asked → Dealt → Result (Opened A) E
game_opened aimed a d = on_ok (λ aim. record { aim = aim; stand = first_stand d }) (aimed a)

-- the trick game
abbrev pub tricks_aimed : Asked → Result MostTricks WrongGoal
tricks_aimed tricks = Ok (record {})
tricks_aimed (plan t) = Err Plan

abbrev pub tricks_opened : Asked → Dealt → Result (Opened MostTricks) WrongGoal
tricks_opened a d = game_opened tricks_aimed a d

-- the plan game, with its target
abbrev pub plan_aimed : Asked → Result Target WrongGoal
plan_aimed tricks = Err Tricks
plan_aimed (plan t) = Ok (record { 0 = t })

abbrev pub plan_opened : Asked → Dealt → Result (Opened Target) WrongGoal
plan_opened a d = game_opened plan_aimed a d
