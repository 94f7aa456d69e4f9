-- How the states of a course of play come one after the other.
use Rattle.std.specs.Prelude.{◌≡◌, ℕ, ◌<◌, List, ◌∷◌, length}
use Rattle.cardplay.specs.Cards.{Play, after_card}
use Rattle.cardplay.specs.Deals.{Played}
use Rattle.deals.specs.declared.course.Course.{Course}
use Rattle.deals.specs.declared.state.State.{State}
use Rattle.deals.specs.Dealing.{dealt_of}
use Rattle.deals.specs.States.{play_of}

-- what holds of the state that a card leads to: there is room for the present state among the past ones, and where it is
-- the latest of them, each state came by a legal card
pub record After (c : Course) (card : ℕ) (s : State) : Type 0 where
  pub comes : play_of s ≡ after_card (dealt_of c.problem) (play_of c.present) card
  pub room : length c.past < 52
  pub legal : (qs : List Play) → qs ≡ play_of c.present ∷ c.past → ∥ Played (dealt_of c.problem) (play_of s) qs ∥₁
