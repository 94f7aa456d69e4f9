-- What a policy does, as functions of its model, and the law that every policy keeps to.
use Rattle.std.specs.Prelude.{◌≡◌, ℕ, zero, suc, ◌^◌, ◌<◌, Bool, true, false, cond, not, ◌&&◌, List, Some, None, Option, nat_le, nat_lt, slice_index_or, slice_set}
use Rattle.bitsets.specs.Sets.{has}

-- from the depth, the set of taken places and the number of children, the place that a policy with the model P chooses;
-- and its model once it is told that, at a depth, the child at a place closed its parent by a cut
pub record PolicyOps (P : Type 0) : Type 0 where
  pub choose : P → ℕ → ℕ → ℕ → Option ℕ
  pub notice : P → ℕ → ℕ → P

-- whether, with t taken and n children, no more than 64, the place p may be chosen: it is a child's, and not taken
abbrev pub free : ℕ → ℕ → ℕ → Bool
free t n p = nat_lt p n && nat_le n 64 && not (has t p)

-- r is a number with f, or there is none
pub record Chosen (f : ℕ → Bool) (r : Option ℕ) : Type 0 where
  pub some : (p : ℕ) → r ≡ Some p → f p ≡ true
  pub none : r ≡ None → (k : ℕ) → f k ≡ false

pub record PolicyLaws {P : Type 0} (o : PolicyOps P) : Type 0 where
  -- a place that may be chosen, or none if there is none such
  pub chooses : (m : P) (d t n : ℕ) → t < 2 ^ 64 → Chosen (free t n) (o.choose m d t n)

-- the lowest number below k that has f: the lowest below one less, or else that one
abbrev pub or_next : (ℕ → Bool) → ℕ → Option ℕ → Option ℕ
or_next f k (Some p) = Some p
or_next f k None = cond (f k) (Some k) None

abbrev pub lowest_with : (ℕ → Bool) → ℕ → Option ℕ
lowest_with f zero = None
lowest_with f (suc k) = or_next f k (lowest_with f k)

-- the highest number below k that has f
abbrev pub highest_with : (ℕ → Bool) → ℕ → Option ℕ
highest_with f zero = None
highest_with f (suc k) = cond (f k) (Some k) (highest_with f k)

-- the same in other words: r has f and no lower number has, or there is none
pub record LowestOf (f : ℕ → Bool) (r : Option ℕ) : Type 0 where
  pub chosen : Chosen f r
  pub least : (p : ℕ) → r ≡ Some p → (k : ℕ) → k < p → f k ≡ false

-- r has f and no higher number has, or there is none
pub record HighestOf (f : ℕ → Bool) (r : Option ℕ) : Type 0 where
  pub chosen : Chosen f r
  pub greatest : (p : ℕ) → r ≡ Some p → (k : ℕ) → p < k → f k ≡ false

-- the policies that choose the lowest and the highest place, and keep nothing of a notice
abbrev pub lowest_ops : PolicyOps (Unit {0})
lowest_ops = record { choose = λ m d t n. lowest_with (free t n) n; notice = λ m d p. m }

abbrev pub highest_ops : PolicyOps (Unit {0})
highest_ops = record { choose = λ m d t n. highest_with (free t n) n; notice = λ m d p. m }

-- the place last noticed at each depth from 0 to 63, and the model of the policy below
pub record Layered (P : Type 0) : Type 0 where
  pub noticed : List (Option ℕ)
  pub below : P

-- the place last noticed at depth d, and what is noticed after one more notice; nothing is kept from depth 64 on
abbrev pub last_at : List (Option ℕ) → ℕ → Option ℕ
last_at xs d = cond (nat_lt d 64) (slice_index_or xs d None) None

abbrev pub noted : List (Option ℕ) → ℕ → ℕ → List (Option ℕ)
noted xs d p = cond (nat_lt d 64) (slice_set xs d (Some p)) xs

-- the place noticed, if it has f, or else the other
abbrev pub if_with : (ℕ → Bool) → Option ℕ → Option ℕ → Option ℕ
if_with f (Some p) r = cond (f p) (Some p) r
if_with f None r = r

-- the place last noticed at the depth, or else what the policy below chooses; a notice goes to both
module _ {P : Type 0} (o : PolicyOps P) where
  abbrev pub recent_ops : PolicyOps (Layered P)
  recent_ops = record {
    choose = λ m d t n. if_with (free t n) (last_at m.noticed d) (o.choose m.below d t n);
    notice = λ m d p. record { noticed = noted m.noticed d p; below = o.notice m.below d p };
  }
