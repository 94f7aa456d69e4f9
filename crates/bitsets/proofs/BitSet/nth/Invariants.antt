use Rattle.std.proofs.Common.{◌≡◌, ◌^◌, ◌<◌, drop}
use Rattle.bitsets.specs.Sets.{members}
use Rattle.bitsets.proofs.BitSet.nth.Given as goal

-- what is left are the members from this place on
abbrev pub invariant-loop-passed : goal.invariant-loop-passed
invariant-loop-passed l = (l.rest < 2 ^ 64) × (members 64 l.rest ≡ drop l._passed (members 64 l.fn.self.0))
