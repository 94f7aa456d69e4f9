use Rattle.lines.proofs.problem.Problem.new.Goals as goal

pub invariant_of-result : goal.invariant_of-result
invariant_of-result c = record { valid = ∣ c.requires ∣₁ }
