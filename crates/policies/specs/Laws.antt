-- Each policy keeps to the law.
use Rattle.std.specs.Prelude.{◌≡◌, ℕ, zero, suc, ◌<◌, ◌≤◌, Bool, true, false, Some, None, Option}
use Rattle.std.proofs.Common.{sym, ⊎_elim, arith}
use Rattle.std.proofs.lemmas.Option.{none-some}
use Rattle.std.proofs.lemmas.Bool.{cases_Bool, cases_eq, cases_lt, le-ltb}
use Rattle.policies.specs.Policies.{PolicyOps, PolicyLaws, Chosen, free, or_next, lowest_with, highest_with, lowest_ops, highest_ops, last_at, if_with, recent_ops}

-- r is a number below k with f, or no number below k has f
record Below (f : ℕ → Bool) (k : ℕ) (r : Option ℕ) : Type 0 where
  some : (p : ℕ) → r ≡ Some p → f p ≡ true
  none : r ≡ None → (j : ℕ) → j < k → f j ≡ false

-- what is chosen below n is chosen, if f has no number from n on
whole : (f : ℕ → Bool) (n : ℕ) (r : Option ℕ) → ((j : ℕ) → n ≤ j → f j ≡ false) → Below f n r → Chosen f r
whole f n r out b = record {
  some = b.some;
  none = λ e j. ⊎_elim (λ lt. b.none e j lt) (λ le. out j le) (cases_lt j n);
}

-- no number is below 0
below_none : (f : ℕ → Bool) → Below f 0 None
below_none f = record { some = λ p e. absurd (none-some p e); none = λ e j lt. absurd (omega arith) }

-- one number more, that has f
below_yes : (f : ℕ → Bool) (k : ℕ) → f k ≡ true → Below f (suc k) (Some k)
below_yes f k h = record {
  some = λ p e. let q : k ≡ p = cc in rw (sym q) h;
  none = λ e j lt. absurd (none-some _ (sym e));
}

-- one number more, where one was found before
below_kept : (f : ℕ → Bool) (k q : ℕ) → Below f k (Some q) → Below f (suc k) (Some q)
below_kept f k q b = record { some = b.some; none = λ e j lt. absurd (none-some _ (sym e)) }

-- one number more, that has not f
below_no : (f : ℕ → Bool) (k : ℕ) (r : Option ℕ) → f k ≡ false → Below f k r → Below f (suc k) r
below_no f k r h b = record {
  some = b.some;
  none = λ e j lt. ⊎_elim (λ q. rw q h) (λ ne. b.none e j (omega arith)) (cases_eq j k);
}

-- so the lowest and the highest are chosen, number by number
low_more : (f : ℕ → Bool) (k : ℕ) (r : Option ℕ) → Below f k r → Below f (suc k) (or_next f k r)
low_more f k (Some q) b = below_kept f k q b
low_more f k None b =
    ⊎_elim (λ h. rw h (below_yes f k h)) (λ h. rw h (below_no f k None h b)) (cases_Bool (f k))

low_below : (f : ℕ → Bool) (k : ℕ) → Below f k (lowest_with f k)
low_below f zero = below_none f
low_below f (suc k) = low_more f k (lowest_with f k) (low_below f k)

high_below : (f : ℕ → Bool) (k : ℕ) → Below f k (highest_with f k)
high_below f zero = below_none f
high_below f (suc k) =
    ⊎_elim (λ h. rw h (below_yes f k h)) (λ h. rw h (below_no f k (highest_with f k) h (high_below f k))) (cases_Bool (f k))

-- no place from the number of children on may be chosen
none_past : (t n j : ℕ) → n ≤ j → free t n j ≡ false
none_past t n j le = rw (le-ltb j n le)

pub lowest_laws : PolicyLaws lowest_ops
lowest_laws = record { chooses = λ m d t n h. whole (free t n) n (lowest_with (free t n) n) (none_past t n) (low_below (free t n) n) }

pub highest_laws : PolicyLaws highest_ops
highest_laws = record { chooses = λ m d t n h. whole (free t n) n (highest_with (free t n) n) (none_past t n) (high_below (free t n) n) }

-- a number that has f is one to choose
pub one_chosen : (f : ℕ → Bool) (q : ℕ) → f q ≡ true → Chosen f (Some q)
one_chosen f q h = record {
  some = λ p e. let w : q ≡ p = cc in rw (sym w) h;
  none = λ e k. absurd (none-some _ (sym e));
}

-- what is noticed, or else what is chosen
if_chosen : (f : ℕ → Bool) (x r : Option ℕ) → Chosen f r → Chosen f (if_with f x r)
if_chosen f None r c = c
if_chosen f (Some q) r c = ⊎_elim (λ h. rw h (one_chosen f q h)) (λ h. rw h c) (cases_Bool (f q))

module _ {P : Type 0} (o : PolicyOps P) (l : PolicyLaws o) where
  pub recent_laws : PolicyLaws (recent_ops o)
  recent_laws = record {
    chooses = λ m d t n h. if_chosen (free t n) (last_at m.noticed d) (o.choose m.below d t n) (l.chooses m.below d t n h);
  }
