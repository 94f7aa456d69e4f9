-- Counting in the children of a turn one by one, from the last to the first, gives the size of its tree.
use Rattle.std.proofs.Common.{◌≡◌, ℕ, zero, suc, ◌+◌, ◌-◌, ◌<◌, Some, refl, ap, ◌∙◌, arith}
use Rattle.std.proofs.lemmas.Option.{none-some}
use Rattle.games.specs.declared.side.Side.{Side}
use Rattle.games.specs.Trees.{Tree, over, turn, Forest, none, also, side_of, children_of, count, place_or, child, size, sizes, Line}
use Rattle.games.specs.Evaluations.{capped}

-- p with the sizes of the first n of the trees ts counted in
abbrev pub counted : {S : Type 0} → (ℕ → Tree S) → ℕ → ℕ → ℕ
counted ts zero p = p
counted ts (suc n) p = counted ts n (capped (p + capped (size (ts n))))

-- one more child is counted in: what gives the position's size with n to go gives it with n - 1;
-- m is the line l as it was found again
pub counted_more : {S : Type 0} (l m : Line S) → m ≡ l → (n : ℕ) → 0 < n → (p : ℕ) {q a : ℕ}
    → counted (child l.present) n p ≡ capped (size l.present)
    → a ≡ capped (size (child m.present (n - 1))) → q ≡ capped (p + a)
    → counted (child l.present) (n - 1) q ≡ capped (size l.present)
counted_more l m e zero h p so_far one with_it = absurd (omega arith)
counted_more l m e (suc n) h p so_far one with_it =
    let back : suc n - 1 ≡ n = omega arith in
    let a_is = one ∙ ap (λ (x : Line _). capped (size (child x.present (suc n - 1)))) e in
    ap (counted (child l.present) (suc n - 1)) (with_it ∙ ap (λ (x : ℕ). capped (p + x)) a_is)
    ∙ ap (λ (i : ℕ). counted (child l.present) i (capped (p + capped (size (child l.present i))))) back
    ∙ so_far

-- the sizes of the first n of the trees ts
summed : {S : Type 0} → (ℕ → Tree S) → ℕ → ℕ
summed ts zero = 0
summed ts (suc n) = size (ts 0) + summed (λ i. ts (suc i)) n

summed_last : {S : Type 0} (ts : ℕ → Tree S) (n : ℕ) → summed ts (suc n) ≡ summed ts n + size (ts n)
unfolding summed
summed_last ts zero = omega arith
summed_last ts (suc n) = omega (arith, summed_last (λ i. ts (suc i)) n)

summed_sizes : {S : Type 0} (x : Tree S) (ts : Forest S) → summed (place_or x ts) (count ts) ≡ sizes ts
unfolding summed
summed_sizes x none = refl
summed_sizes x (also t ts) = ap (λ n. size t + n) (summed_sizes x ts)

-- a sum that stops at the cap after each step stops there as a whole
capped_sum : (p q : ℕ) → capped (capped p + capped q) ≡ capped (p + q)
capped_sum p q = omega arith

counted_summed : {S : Type 0} (ts : ℕ → Tree S) (n p : ℕ) → counted ts n (capped p) ≡ capped (p + summed ts n)
unfolding summed
counted_summed ts zero p = omega arith
counted_summed ts (suc n) p =
    ap (counted ts n) (capped_sum p (size (ts n)))
    ∙ counted_summed ts n (p + size (ts n))
    ∙ ap capped (omega (arith, summed_last ts n))

-- the children of a turn, all counted in, give its size
pub counted_size : {S : Type 0} (t : Tree S) (d : Side) → side_of t ≡ Some d
    → counted (child t) (count (children_of t)) 1 ≡ capped (size t)
counted_size (over k h s) d e = absurd (none-some d e)
counted_size (turn k h d ts) d' e =
    counted_summed (place_or (turn k h d ts) ts) (count ts) 1
    ∙ ap capped (omega (arith, summed_sizes (turn k h d ts) ts))
