-- What the goals of `evaluate` rest on: positions that are over, and the children of a turn taken in one by one.
use Rattle.games.proofs.Ends.{over_plain, over_size, over_or_turn}
use Rattle.games.proofs.Values.{drawn_plain, drawn_more}
use Rattle.games.proofs.Sizes.{counted_size, counted_more}

pub ruleset taken_in = (over_plain, over_size, over_or_turn, drawn_plain, drawn_more, counted_size, counted_more)
