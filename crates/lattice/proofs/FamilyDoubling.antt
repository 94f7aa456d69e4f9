-- The parts of a set as the code computes them, one layout after the other by a shift.
use Rattle.std.proofs.Common.{◌≡◌, ℕ, ◌+◌, ◌*◌, ◌%◌, ◌^◌, ◌<◌, ◌≤◌, Bool, true, false, cond, ◌↔◌, sym, ap, ◌∙◌, add-one, arith, pow_mono}
use Rattle.std.specs.Prelude.{bit_or}
use Rattle.std.proofs.lemmas.Nat.{shl_whole, one_shl}
use Rattle.bitsets.specs.Sets.{has, Part}
use Rattle.bitsets.proofs.Digits.{below_pow, part_le}
use Rattle.bitsets.specs.Families.{doubled, parts_below}
use Rattle.lattice.specs.declared.family.Family.{Family}
use Rattle.bitsets.proofs.FamilyParts.{parts_of_below}
use Rattle.lattice.specs.FamilyScores.{FamilyScore, family_scoring, parts_of, family_of}
use Rattle.lattice.proofs.Codes.{code_stands}
use Rattle.lattice.specs.FamilyLaws.{family_laws}

-- the shift that adds the layout k is by 2 ^ k, at most 32
pub layout_shift : (k : ℕ) → k < 6 → ((1 * 2 ^ k) % 2 ^ 8 ≡ 2 ^ k) × (2 ^ k ≤ 32)
layout_shift k l = let m : k ≤ 5 = omega arith in (one_shl k 8 (omega arith), pow_mono m)

module _ (x k f : ℕ) (is : f ≡ parts_below x k) where
  -- a layout that the set has
  pub parts_with : k < 6 → true ≡ has x k → bit_or f ((f * 2 ^ ((1 * 2 ^ k) % 2 ^ 8)) % 2 ^ 64) ≡ parts_below x (k + 1)
  unfolding parts_below
  parts_with l e =
      let low : f < 2 ^ 2 ^ k = below_pow (2 ^ k) f (λ t h. ((parts_of_below x k).only t (ap (λ (y : ℕ). has y t) (sym is) ∙ h)).1) in
      let half = (layout_shift k l).1 in
      let fits : 2 ^ k + 2 ^ k ≤ 64 = omega arith in
      ap (λ (y : ℕ). bit_or f ((f * 2 ^ y) % 2 ^ 64)) (layout_shift k l).0
      ∙ ap (bit_or f) (shl_whole f (2 ^ k) (2 ^ k) 64 low fits)
      ∙ ap (λ (b : Bool). cond b (doubled f k) f) e
      ∙ ap (λ (y : ℕ). cond (has x k) (doubled y k) y) is ∙ ap (parts_below x) (sym (add-one k))

  -- a layout that it lacks
  pub parts_without : false ≡ has x k → f ≡ parts_below x (k + 1)
  unfolding parts_below
  parts_without e =
      ap (λ (b : Bool). cond b (doubled f k) f) e
      ∙ ap (λ (y : ℕ). cond (has x k) (doubled y k) y) is ∙ ap (parts_below x) (sym (add-one k))

-- all parts of a set of six layouts
module _ (x k : ℕ) (f : Family) (is : f.0 ≡ parts_below x k) (all : k ≡ 6) where
  -- the score that they stand for
  pub parts_score : family_of f ≡ parts_of x
  parts_score = code_stands family_scoring family_laws (parts_of x) f.0 (is ∙ ap (parts_below x) all)

  -- the sets that it has
  pub parts_words : x < 64 → (t : ℕ) → (has (family_of f).number t ≡ true) ↔ Part t x
  parts_words l t =
      let e = ap (λ (a : FamilyScore). has a.number t) parts_score in
      (λ h. ((parts_of_below x 6).only t (sym e ∙ h)).0, λ p. e ∙ (parts_of_below x 6).all t p (let m = part_le t x p in omega arith))
