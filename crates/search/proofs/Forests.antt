-- Sizes of trees, and of the children that a set of places lacks.
use Rattle.std.proofs.Common.{◌≡◌, ℕ, zero, suc, ◌+◌, ◌^◌, ◌<◌, ◌≤◌, true, false, cond, sym, refl, ap, ◌∙◌, subst, arith}
use Rattle.std.specs.Prelude.{bit_or}
use Rattle.bitsets.specs.Sets.{has}
use Rattle.bitsets.proofs.Digits.{has_zero, has_put, has_put_other}
use Rattle.games.specs.Trees.{Tree, over, turn, Forest, none, also, count, children_of, child, place_or, size, sizes, Within, here, below}
use Rattle.search.specs.Steps.{with_place}
use Rattle.search.specs.Invariant.{untaken}
use Rattle.search.proofs.Places.{with_small}

module _ {S : Type 0} where
  pub untaken_none : (i : ℕ) (cs : Forest S) → untaken 0 i cs ≡ sizes cs
  untaken_none i none = refl
  untaken_none i (also c cs) =
      ap (λ x. cond x 0 (size c) + untaken 0 (suc i) cs) (has_zero i) ∙ ap (λ x. size c + x) (untaken_none (suc i) cs)

  -- a place before makes no difference
  untaken_past : (t q i : ℕ) (cs : Forest S) → q < i → untaken (bit_or t (2 ^ q)) i cs ≡ untaken t i cs
  untaken_past t q i none h = refl
  untaken_past t q i (also c cs) h =
      ap (λ x. cond x 0 (size c) + untaken (bit_or t (2 ^ q)) (suc i) cs) (has_put_other t q i (λ e. omega arith))
      ∙ ap (λ x. cond (has t i) 0 (size c) + x) (untaken_past t q (suc i) cs (omega arith))

  -- a place added takes its child's size away
  untaken_at : (d : Tree S) (cs : Forest S) (t i p q : ℕ) → q ≡ i + p → p < count cs → has t q ≡ false
      → untaken t i cs ≡ size (place_or d cs p) + untaken (bit_or t (2 ^ q)) i cs
  untaken_at d none t i p q e h z = absurd (omega arith)
  untaken_at d (also c cs) t i zero q e h z =
      let j : q ≡ i = omega arith in
      let r : untaken t i (also c cs) ≡ size c + untaken t (suc i) cs =
      ap (λ x. cond x 0 (size c) + untaken t (suc i) cs) (subst (λ x. has t x ≡ false) j z) in
      let m : has (bit_or t (2 ^ q)) i ≡ true = subst (λ x. has (bit_or t (2 ^ q)) x ≡ true) j (has_put t q) in
      let k : untaken (bit_or t (2 ^ q)) i (also c cs) ≡ 0 + untaken (bit_or t (2 ^ q)) (suc i) cs =
      ap (λ x. cond x 0 (size c) + untaken (bit_or t (2 ^ q)) (suc i) cs) m in
      let v = untaken_past t q (suc i) cs (omega arith) in
      omega arith
  untaken_at d (also c cs) t i (suc p) q e h z =
      let r = untaken_at d cs t (suc i) p q (omega arith) (omega arith) z in
      let k : untaken (bit_or t (2 ^ q)) i (also c cs) ≡ cond (has t i) 0 (size c) + untaken (bit_or t (2 ^ q)) (suc i) cs =
      ap (λ x. cond x 0 (size c) + untaken (bit_or t (2 ^ q)) (suc i) cs) (has_put_other t q i (λ x. omega arith)) in
      omega arith

  pub untaken_some : (d : Tree S) (cs : Forest S) (t p : ℕ) → p < count cs → p < 64 → has t p ≡ false
      → untaken t 0 cs ≡ size (place_or d cs p) + untaken (with_place t p) 0 cs
  untaken_some d cs t p h few z =
      subst (λ x. untaken t 0 cs ≡ size (place_or d cs p) + untaken x 0 cs) (sym (with_small t p few))
      (untaken_at d cs t 0 p p (omega arith) h z)

  pub size_some : (t : Tree S) → 1 ≤ size t
  size_some (over k h s) = omega arith
  size_some (turn k h d ts) = omega arith

  -- a child of what is within a position is within it
  pub deeper : {t u : Tree S} (n : ℕ) → n < count (children_of t) → Within t u → Within (child t n) u
  deeper n h here = below n h here
  deeper n h (below m k w) = below m k (deeper n h w)
