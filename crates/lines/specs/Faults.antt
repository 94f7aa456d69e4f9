-- The numbers of faults, and how a fault is reported.
use Rattle.std.specs.Prelude.{ℕ, List, ◌++◌, codes, decimal}
use Rattle.lines.specs.declared.fault.Fault.{Fault}
use Rattle.lines.specs.declared.fault.FaultKind.{FaultKind}
use Rattle.lines.specs.declared.fault.FaultKind.TheVariants.{Kind, Missing, Value, Hand, Length, Repeated, Cards, Surplus}

abbrev pub fault_number : FaultKind → ℕ
fault_number Kind = 11
fault_number Missing = 12
fault_number Value = 13
fault_number Hand = 14
fault_number Length = 15
fault_number Repeated = 16
fault_number Cards = 17
fault_number Surplus = 18

-- number,field,byte
abbrev pub fault_report : Fault → List ℕ
fault_report f = decimal (fault_number f.kind) ++ (codes "," ++ (decimal f.place.field ++ (codes "," ++ decimal f.place.byte)))
