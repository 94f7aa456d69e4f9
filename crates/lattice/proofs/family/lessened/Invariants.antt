use Rattle.std.proofs.Common.{◌≡◌}
use Rattle.bitsets.specs.Families.{without_one}
use Rattle.lattice.proofs.family.lessened.Given as goal

-- the sets without one of the layouts so far
abbrev pub invariant-loop-layout : goal.invariant-loop-layout
invariant-loop-layout l = l.less ≡ without_one l.sets l.layout
