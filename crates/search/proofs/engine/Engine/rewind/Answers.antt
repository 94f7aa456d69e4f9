use Rattle.std.proofs.Common.{ℕ, sym, ap, ◌∙◌}
use Rattle.search.specs.Promises.{backs}
use Rattle.search.specs.Stacks.{frames}
use Rattle.search.proofs.Back.{plays_framed}
use Rattle.search.proofs.Finish.{promise_of}
use Rattle.search.proofs.engine.Engine.rewind.Goals as goal

pub returns : goal.returns
returns g c =
    let e = c.args.self.now in
    let k = c.args.stack.now in
    let h = c.args.progress.now.hand in
    let to = λ (n : ℕ). backs n (g.G.Game.line e.game) in
    let back = c.take_back.ensures.game ∙ ap to c.plays.ensures in
    record {
      game = back;
      home = λ base w₀ inv.
          back ∙ sym (ap to (plays_framed g.G.Score.Lattice.stands h (frames k)))
          ∙ (promise_of g.G.Score.Lattice g.T.Table g.P.Policy).back base w₀ _ inv;
      table = c.take_back.ensures.table;
      policy = c.take_back.ensures.policy;
    }
