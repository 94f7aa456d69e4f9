-- The field at a place: from there to the next comma.
use Rattle.std.proofs.Common.{◌≡◌, ℕ, zero, suc, ◌+◌, ◌-◌, ◌<◌, ◌≤◌, eqb, List, [], ◌∷◌, length, get_or, take, drop, sym, refl, ap, ◌∙◌, add-one, add-zero, zero-add, suc-add, arith, length-take, length-drop}
use Rattle.std.proofs.lemmas.List.{take_all}
use Rattle.std.proofs.lemmas.Bool.{eq-eqb, ne_eqb, cond-true, cond-false}
use Rattle.lines.specs.Fields.{Spot, onto, split, split_from, past}

first_piece : (xs : List ℕ) (n : ℕ) → n ≤ length xs → ((k : ℕ) → k < n → get_or xs k 0 ≡ 44 → ⊥) → (n < length xs → get_or xs n 0 ≡ 44)
    → split xs ≡ take n xs ∷ split_from xs (suc n)
first_piece [] zero h f g = refl
first_piece [] (suc n) h f g = absurd (omega arith)
first_piece (b ∷ bs) zero h f g = cond-true (eqb b 44) ([] ∷ split bs) (onto b (split bs)) (eq-eqb b 44 (g (omega arith)))
first_piece (b ∷ bs) (suc n) h f g =
    cond-false (eqb b 44) ([] ∷ split bs) (onto b (split bs)) (ne_eqb b 44 (f 0 (omega arith)))
    ∙ ap (onto b) (first_piece bs n (omega arith) (λ k lt. f (suc k) (omega arith)) (λ lt. g (omega arith)))

from_drop : (line : List ℕ) (a n : ℕ) → a ≤ length line → split_from (drop a line) n ≡ split_from line (a + n)
from_drop line zero n h = ap (split_from line) (sym (zero-add n))
from_drop [] (suc a) n h = absurd (omega arith)
from_drop (b ∷ bs) (suc a) n h = from_drop bs a n (omega arith) ∙ ap (split_from (b ∷ bs)) (sym (suc-add a n))

-- the field at a is what stands there before the next comma; the rest is what stands there at all
pub next_piece : (line : List ℕ) (a n : ℕ) → a ≤ length line → n ≤ length (take (length line - a) (drop a line))
    → ((k : ℕ) → k < n → get_or (take (length line - a) (drop a line)) k 0 ≡ 44 → ⊥)
    → (n < length (take (length line - a) (drop a line)) → get_or (take (length line - a) (drop a line)) n 0 ≡ 44)
    → split_from line a ≡ take n (take (length line - a) (drop a line)) ∷ split_from line (a + (n + 1))
next_piece line a n lo =
    rw (rest_all line a) (λ hi f g.
    ap (split_from line) (sym (add-zero a)) ∙ sym (from_drop line a 0 lo) ∙ first_piece (drop a line) n hi f g
    ∙ ap (λ (ps : List (List ℕ)). take n (drop a line) ∷ ps) (from_drop line a (suc n) lo ∙ ap (λ (m : ℕ). split_from line (a + m)) (sym (add-one n))))
  where
    rest_all : (line : List ℕ) (a : ℕ) → take (length line - a) (drop a line) ≡ drop a line
    rest_all line a = take_all (length line - a) (drop a line) (let l = length-drop a line in omega arith)

pub piece_length : (line : List ℕ) (a e : ℕ) → a ≤ e → e ≤ length line → a + (length (take (e - a) (drop a line)) + 1) ≡ e + 1
piece_length line a e lo hi = simp (length-take, length-drop) (omega arith)

pub none_past : (line : List ℕ) (a : ℕ) → length line < a → split_from line a ≡ []
none_past line zero h = absurd (omega arith)
none_past [] (suc a) h = refl
none_past (b ∷ bs) (suc a) h = none_past bs a (omega arith)

abbrev pub spot : List (List ℕ) → ℕ → ℕ → Spot
spot r n b = record { rest = r; number = n; byte = b }

-- after the last field nothing moves
pub spot_end : (line : List ℕ) (a n : ℕ) → split_from line a ≡ [] → spot (split_from line a) n (a + 1) ≡ past (split_from line a) n (a + 1)
spot_end line a n e = ap (λ (r : List (List ℕ)). spot r n (a + 1)) e ∙ ap (λ (r : List (List ℕ)). past r n (a + 1)) (sym e)

-- past a field
pub spot_on : (line p : List ℕ) (a b n : ℕ) → split_from line a ≡ p ∷ split_from line b → a + (length p + 1) ≡ b
    → spot (split_from line b) (n + 1) (b + 1) ≡ past (split_from line a) n (a + 1)
spot_on line p a b n e f =
    let g : b + 1 ≡ a + 1 + (length p + 1) = omega arith in
    ap (spot (split_from line b) (n + 1)) g ∙ ap (λ (r : List (List ℕ)). past r n (a + 1)) (sym e)
