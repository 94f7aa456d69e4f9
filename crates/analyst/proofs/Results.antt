-- What an accepted call says of its questions.
use Rattle.std.proofs.Common.{◌≡◌, ℕ, Bool, true, false, cond, Some, Ok, Err, Option, Result, refl, arith}

module _ {A E : Type 0} where
  pub same_ok : {x y : A} → ◌≡◌ {A = Result A E} (Ok x) (Ok y) → x ≡ y
  same_ok e = cc

  pub not_ok : {x : E} {y : A} → ◌≡◌ {A = Result A E} (Err x) (Ok y) → ⊥
  not_ok e = let z : ◌≡◌ {A = ℕ} 0 1 = cc in omega arith

  -- accepted: the answer to the first question is yes, and the others accept
  pub yes_first : (t : Bool) (r : E) (rest : Result A E) (y : A) → cond t rest (Err r) ≡ Ok y → (t ≡ true) × (rest ≡ Ok y)
  yes_first true r rest y e = (refl, e)
  yes_first false r rest y e = absurd (not_ok e)

  pub said_yes : (t : Bool) (r : E) (y : A) → t ≡ true → cond t (Ok y) (Err r) ≡ Ok y
  said_yes true r y e = refl
  said_yes false r y e = cc

  -- by what a call comes to
  pub by_result : (r : Result A E) (Q : Result A E → Type 0) → ((y : A) → r ≡ Ok y → Q (Ok y)) → ((e : E) → Q (Err e)) → Q r
  by_result (Ok y) Q f g = f y refl
  by_result (Err e) Q f g = g e

pub some_same : {A : Type 0} {x y : A} → ◌≡◌ {A = Option A} (Some x) (Some y) → x ≡ y
some_same e = cc
