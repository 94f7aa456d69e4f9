-- What owns a search is what has its ticket and its stack.
use Rattle.std.proofs.Common.{◌≡◌, ℕ, true, Some, None, Option, refl, ap, ◌∙◌}
use Rattle.analyst.specs.declared.analyst.Open.{Open}
use Rattle.analyst.specs.Calls.{State, Stack, Mine}
use Rattle.sessions.specs.Owning.{matched, owned}

module _ {S C M P : Type 0} where
  pub mine : (a : State S C M P) (j : ℕ) (k : Stack C) → owned a j k ≡ true → Mine a j k
  mine a j k = by a.search refl
    where
      by : (v : Option (Open C)) → a.search ≡ v → matched v j k ≡ true → Mine a j k
      by None is e = absurd cc
      by (Some s) is e = record { underway = s; is = is; own = e }

  pub own : {a : State S C M P} {j : ℕ} {k : Stack C} → Mine a j k → owned a j k ≡ true
  own {j = j} {k = k} m = ap (λ (v : Option (Open C)). matched v j k) m.is ∙ m.own
