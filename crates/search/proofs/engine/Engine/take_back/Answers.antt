use Rattle.std.proofs.Common.{◌≡◌, ℕ, ◌-◌, sym, refl, ap, ◌∙◌, arith}
use Rattle.search.specs.Promises.{backs}
use Rattle.search.proofs.Back.{backs_more, backs_none}
use Rattle.search.proofs.engine.Engine.take_back.Goals as goal

pub loop-init : goal.loop-init
loop-init g c =
    let z : c.args.plays - 0 ≡ c.args.plays = omega arith in
    (ap (λ (n : ℕ). backs n (g.G.Game.line c.args.self.now.game)) z, refl, refl)

pub loop-preserved : goal.loop-preserved
loop-preserved g c =
    let inv = c.loop.invariant in
    (backs_more c.args.plays c.loop.counter _ _ c.loop-test.true c.take_back.ensures.goes ∙ inv.0, inv.1, inv.2)

pub returns : goal.returns
returns g c =
    let inv = c.loop.invariant in
    record { game = sym (backs_none c.args.plays c.loop.counter _ (omega arith)) ∙ inv.0; table = inv.1; policy = inv.2 }
