-- The score that a number stands for, from the laws of codes.
use Rattle.std.proofs.Common.{◌≡◌, ℕ, ap, ◌∙◌}
use Rattle.lattice.specs.Scores.{Scoring, Laws, or_else, meant}

-- a code stands for its score
pub code_stands : {C : Type 0} (s : Scoring C) → Laws s → (a : C) (n : ℕ) → n ≡ s.code a → meant s n ≡ a
code_stands s law a n e = ap (meant s) e ∙ ap (or_else s.bottom) (law.reads a)
