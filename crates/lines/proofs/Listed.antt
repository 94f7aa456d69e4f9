-- The layouts that a problem lists are the first places of its array.
use Rattle.std.proofs.Common.{◌≡◌, ℕ, zero, suc, ◌<◌, ◌≤◌, List, [], ◌∷◌, map, length, get_or, take, Some, None, refl, ap, ◌∙◌, arith}
use Rattle.lines.specs.declared.deal.Layout.{Layout}
use Rattle.lines.specs.Problems.{defence}
use Rattle.lines.specs.Deals.{Deal, seat_hand, hand_among}

module _ (d : Deal) (seat : ℕ) where
  pub listed_hand : (xs : List Layout) (n i h : ℕ) (x : Layout) → i < n → i < length xs → x ≡ get_or xs i x → h ≡ seat_hand d (defence x) seat
      → Some h ≡ hand_among d (map defence (take n xs)) i seat
  listed_hand xs zero i h x l m e f = absurd (omega arith)
  listed_hand [] (suc n) i h x l m e f = absurd (omega arith)
  listed_hand (y ∷ ys) (suc n) zero h x l m e f = ap Some (f ∙ ap (λ (z : Layout). seat_hand d (defence z) seat) e)
  listed_hand (y ∷ ys) (suc n) (suc i) h x l m e f = listed_hand ys n i h x (omega arith) (omega arith) e f

  pub listed_past : (xs : List Layout) (n i : ℕ) → n ≤ i → None ≡ hand_among d (map defence (take n xs)) i seat
  listed_past xs zero i l = refl
  listed_past [] (suc n) i l = refl
  listed_past (y ∷ ys) (suc n) zero l = absurd (omega arith)
  listed_past (y ∷ ys) (suc n) (suc i) l = listed_past ys n i (omega arith)
