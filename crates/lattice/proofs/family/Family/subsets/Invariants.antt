use Rattle.std.proofs.Common.{◌≡◌}
use Rattle.bitsets.specs.Families.{parts_below}
use Rattle.lattice.proofs.family.Family.subsets.Given as goal

-- the parts of the set among the layouts so far
abbrev pub invariant-loop-layout : goal.invariant-loop-layout
invariant-loop-layout l = l.parts ≡ parts_below l.set l.layout
