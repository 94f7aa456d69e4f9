-- Numbers of tricks keep the laws of scores.
use Rattle.std.specs.Prelude.{◌≡◌, ℕ, ◌<◌, ◌≤◌, ◌⊎◌, Some, Option, refl}
use Rattle.std.proofs.Common.{sym, ap, inl, inr, arith}
use mathlib.Core.HLevel.{is_prop→PathP}
use Rattle.std.proofs.Math.Bridge.{le_prop}
use Rattle.std.proofs.Math.Nat.{max_comm, min_comm, max-eq_right}
use Rattle.std.proofs.lemmas.Bool.{cases_lt, leb-true, le-leb}
use Rattle.std.proofs.lemmas.Option.{none-some}
use Rattle.lattice.specs.Scores.{Laws}
use Rattle.lattice.specs.TrickScores.{TrickScore, told_tricks, trick_scoring}

-- scores with one number are equal
pub trick_path : {a b : TrickScore} → a.number ≡ b.number → a ≡ b
trick_path {a} {b} e = λ i. record { number = e i; few = is_prop→PathP (λ i. e i ≤ 13) (λ i. le_prop) a.few b.few i }

told_some : (n : ℕ) (c : (13 < n) ⊎ (n ≤ 13)) (a : TrickScore) → a.number ≡ n → told_tricks n c ≡ Some a
told_some n (inl many) a q = let l = a.few in absurd (omega arith)
told_some n (inr few) a q = ap {B = Option TrickScore} Some (trick_path {a = record { number = n; few = few }} (sym q))

some_told : (n : ℕ) (c : (13 < n) ⊎ (n ≤ 13)) (a : TrickScore) → told_tricks n c ≡ Some a → a.number ≡ n
some_told n (inl many) a q = absurd (none-some a q)
some_told n (inr few) a q =
    let r : record { number = n; few = few } ≡ a = cc in sym (ap (λ (x : TrickScore). x.number) r)

pub trick_laws : Laws trick_scoring
trick_laws = record {
  join_commutes = λ a b. trick_path (max_comm a.number b.number);
  join_associates = λ a b c. trick_path (omega arith);
  meet_commutes = λ a b. trick_path (min_comm a.number b.number);
  meet_associates = λ a b c. trick_path (omega arith);
  join_absorbs = λ a b. trick_path (omega arith);
  meet_absorbs = λ a b. trick_path (omega arith);
  distributes = λ a b c. trick_path (omega arith);
  bottom_neutral = λ a. trick_path (omega arith);
  top_neutral = λ a. trick_path (let l = a.few in omega arith);
  orders = λ a b. (
    λ h. trick_path (max-eq_right (leb-true a.number b.number h)),
    λ h. let e = ap (λ (x : TrickScore). x.number) h in le-leb a.number b.number (omega arith),
  );
  fits = λ a. let l = a.few in omega arith;
  reads = λ a. told_some a.number (cases_lt 13 a.number) a refl;
  exact = λ n a h. some_told n (cases_lt 13 n) a h;
}
