-- The deal that a problem gives, as card play has it.
use Rattle.lines.specs.declared.problem.Problem.{Problem}
use Rattle.lines.specs.Told.{deal_of}
use Rattle.cardplay.specs.Cards.{Dealt}
use Rattle.cardplay.specs.Dealing.{dealt}

abbrev pub dealt_of : Problem → Dealt
dealt_of p = dealt (deal_of p)
