-- A policy over another.
use Rattle.policies.specs.declared.recent.Recent.{Recent}

-- the policy below
abbrev pub below_of : {P : Type 0} → Recent P → P
below_of r = r.below
