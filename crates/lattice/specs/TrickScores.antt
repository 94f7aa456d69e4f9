-- The scores of the trick game: 0 to 13 tricks, the larger as join and the smaller as meet.
use Rattle.std.specs.Prelude.{ℕ, ◌<◌, ◌≤◌, min, max, ◌⊎◌, Some, None, Option, nat_le}
use Rattle.std.proofs.Common.{inl, inr, zero-le, le_trans, lit≤}
use Rattle.std.proofs.Math.Nat.{max-le, min-le_left}
use Rattle.std.proofs.lemmas.Bool.{cases_lt}
use Rattle.lattice.specs.declared.tricks.Tricks.{Tricks}
use Rattle.lattice.specs.Scores.{Scoring, meant}

-- a number of tricks, at most 13
pub record TrickScore : Type 0 where
  pub number : ℕ
  pub few : number ≤ 13

-- n as a score, told on which side of 13 it lies
abbrev pub told_tricks : (n : ℕ) → (13 < n) ⊎ (n ≤ 13) → Option TrickScore
told_tricks n (inl many) = None
told_tricks n (inr few) = Some (record { number = n; few = few })

-- the operations on numbers of tricks
abbrev pub trick_scoring : Scoring TrickScore
trick_scoring = record {
  join = λ a b. record { number = max a.number b.number; few = max-le a.few b.few };
  meet = λ a b. record { number = min a.number b.number; few = le_trans (min-le_left a.number b.number) a.few };
  bottom = record { number = 0; few = zero-le };
  top = record { number = 13; few = lit≤ tt };
  below = λ a b. nat_le a.number b.number;
  code = λ a. a.number;
  decode = λ n. told_tricks n (cases_lt 13 n);
}

-- the score that a value stands for
abbrev pub tricks_of : Tricks → TrickScore
tricks_of v = meant trick_scoring v.0
