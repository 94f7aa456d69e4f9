-- What is told of a value stays what it is, whatever score the value stands for.
use Rattle.std.proofs.Common.{◌≡◌, ap}
use Rattle.std.specs.Int.{from_bool}
use Rattle.solver.specs.declared.once.Solved.{Solved}
use Rattle.solver.specs.Solving.{is_finished, meaning}
use Rattle.solver.proofs.Right.{some_standing}

pub finished_still : {A B : Type 0} (f : A → B) (s : Solved A) → from_bool (is_finished s) ≡ from_bool (is_finished (meaning f s))
finished_still f s = ap from_bool (some_standing f s.ended.value)
