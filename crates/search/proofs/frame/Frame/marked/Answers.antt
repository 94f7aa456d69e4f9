use Rattle.search.proofs.Places.{with_is}
use Rattle.search.proofs.frame.Frame.marked.Goals as goal

pub returns : goal.returns
returns g c =
    let e = with_is c.args.self.taken.0 c.args.place c.with.result.0 c.with.ensures.members in
    λ i. record { window = c.args.self.window; found = c.args.self.found; taken = record { 0 = e i }; last = Rattle.std.specs.declared.option.Option.TheVariants.Some c.args.place }
