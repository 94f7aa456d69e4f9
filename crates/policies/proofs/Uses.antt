-- What a search takes from the law of a policy.
use Rattle.std.proofs.Common.{◌≡◌, ℕ, ◌^◌, ◌<◌, ◌≤◌, Bool, true, false, not, ◌&&◌, ltb, leb, Some, None, Option, refl}
use Rattle.std.proofs.lemmas.Bool.{and_parts, both_ways, not-true, ltb-true, leb-true, lt-ltb, le-leb}
use Rattle.bitsets.specs.Sets.{has}
use Rattle.policies.specs.Policies.{PolicyOps, PolicyLaws, Chosen, free}

-- what it is that a place may be chosen
pub free_parts : (t n p : ℕ) → free t n p ≡ true → (p < n) × (n ≤ 64) × (has t p ≡ false)
free_parts t n p h =
    let (inside, unheld) = and_parts (ltb p n && leb n 64) (not (has t p)) h in
    let (low, few) = and_parts (ltb p n) (leb n 64) inside in
    (ltb-true p n low, leb-true n 64 few, not-true (has t p) unheld)

pub parts_free : (t n p : ℕ) → p < n → n ≤ 64 → has t p ≡ false → free t n p ≡ true
parts_free t n p low few unheld = rw (lt-ltb p n low, le-leb n 64 few, unheld)

-- where some number has f, one is chosen
some_chosen : (f : ℕ → Bool) (r : Option ℕ) (p : ℕ) → f p ≡ true → Chosen f r → (q : ℕ) × (r ≡ Some q)
some_chosen f (Some q) p h c = (q, refl)
some_chosen f None p h c = absurd (both_ways (f p) (c.none refl p) h)

module _ {P : Type 0} (o : PolicyOps P) (l : PolicyLaws o) where
  -- the place chosen is a child's, and not taken
  pub untaken : (m : P) (d t n p : ℕ) → t < 2 ^ 64 → o.choose m d t n ≡ Some p → (p < n) × (n ≤ 64) × (has t p ≡ false)
  untaken m d t n p small e = free_parts t n p ((l.chooses m d t n small).some p e)

  -- while some child is not taken, one is chosen
  pub chooses : (m : P) (d t n p : ℕ) → n ≤ 64 → t < 2 ^ 64 → p < n → has t p ≡ false → (q : ℕ) × (o.choose m d t n ≡ Some q)
  chooses m d t n p few small low unheld =
      some_chosen (free t n) (o.choose m d t n) p (parts_free t n p low few unheld) (l.chooses m d t n small)
