-- What the reader's values tell: a problem's deal, and what else can be asked of a problem.
use Rattle.std.specs.Prelude.{Ok, Err, Option, Result}
use Rattle.cards.specs.declared.card.Suit.{Suit}
use Rattle.lines.specs.declared.deal.Goal.{Goal}
use Rattle.lines.specs.declared.deal.Seat.{Seat}
use Rattle.lines.specs.declared.problem.Problem.{Problem}
use Rattle.lines.specs.Deals.{Deal}
use Rattle.lines.specs.Problems.{deal}

abbrev pub deal_of : Problem → Deal
deal_of p = deal p.parts

-- what is asked of a problem, its trump suit, and the seat that leads to the first trick
abbrev pub goal_of : Problem → Goal
goal_of p = p.parts.goal

abbrev pub trump_suit_of : Problem → Option Suit
trump_suit_of p = p.parts.trump

abbrev pub first_leader_of : Problem → Seat
first_leader_of p = p.parts.leader

-- the same of what is Ok
abbrev pub on_ok : {T U E : Type 0} → (T → U) → Result T E → Result U E
on_ok f (Ok x) = Ok (f x)
on_ok f (Err e) = Err e
