use Rattle.std.proofs.Common.{◌≡◌, ◌-◌}
use Rattle.search.specs.Promises.{backs}
use Rattle.search.proofs.engine.Engine.take_back.Given as goal

abbrev pub invariant-loop : goal.invariant-loop
invariant-loop g l =
    (backs (l.plays - l.counter) (g.G.Game.line l.self.game) ≡ backs l.plays (g.G.Game.line l.initial.self.game))
    × (l.self.table ≡ l.initial.self.table) × (l.self.policy ≡ l.initial.self.policy)
