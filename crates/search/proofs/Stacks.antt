-- The open frames of a stack after a pop.
use Rattle.std.proofs.Common.{◌≡◌, ℕ, zero, suc, ◌+◌, ◌-◌, ◌<◌, ◌≤◌, List, [], ◌∷◌, reverse, length, get_or, take, sym, refl, ap, ◌∙◌, arith}
use Rattle.std.proofs.lemmas.List.{take_more, reverse-append}
use Rattle.search.specs.Stacks.{newest_first, tail}

module _ {X : Type 0} where
  -- the last of n comes first
  last_first : (xs : List X) (n : ℕ) (d : X) → n < length xs → newest_first (n + 1) xs ≡ get_or xs n d ∷ newest_first n xs
  last_first xs n d lt = ap reverse (take_more xs n d lt) ∙ reverse-append (take n xs) (get_or xs n d ∷ [])

  pub popped : (xs : List X) (n : ℕ) → n ≤ length xs → newest_first (n - 1) xs ≡ tail (newest_first n xs)
  popped xs zero le = refl
  popped [] (suc n) le = absurd (omega arith)
  popped (x ∷ xs) (suc n) le =
      let e : suc n ≡ n + 1 = omega arith in
      let one : suc n - 1 ≡ n = omega arith in
      ap (λ m. newest_first m (x ∷ xs)) one
      ∙ sym (ap (λ m. tail (newest_first m (x ∷ xs))) e ∙ ap tail (last_first (x ∷ xs) n x (omega arith)))
