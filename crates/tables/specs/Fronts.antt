-- A table in front of another.
use Rattle.tables.specs.declared.front.Front.{Front}

-- the table below
abbrev pub below_of : {T : Type 0} → Front T → T
below_of f = f.below
