-- Reading the layouts of a line one after the other.
use Rattle.std.specs.Option.{option_or}
use Rattle.std.proofs.Common.{◌≡◌, ℕ, zero, suc, ◌+◌, ◌-◌, ◌<◌, ◌≤◌, Option, List, [], ◌∷◌, ◌++◌, map, length, get_or, take, set, Some, Ok, Err, Result, sym, refl, ap, ◌∙◌, arith}
use Rattle.std.proofs.lemmas.List.{take_more_set, map_push}
use Rattle.lines.specs.declared.fault.Fault.{Fault}
use Rattle.lines.specs.declared.deal.Layout.{Layout}
use Rattle.lines.specs.Fields.{Spot, next_spot}
use Rattle.lines.specs.Problems.{defence}
use Rattle.lines.specs.Deals.{Defence, both}
use Rattle.lines.specs.Reading.{then, first_cards, layout_at, layouts_at, nothing_left, end_at}

-- the first layout's cards, with one layout more
pub first_step : (ls : List Defence) (l : Defence) (u : ℕ) (o r : Option ℕ) → o ≡ first_cards ls → u ≡ both l → r ≡ option_or o (Some u) → r ≡ first_cards (ls ++ (l ∷ []))
first_step [] l u o r e f g = cc
first_step (m ∷ ls) l u o r e f g = cc

-- the first layout's cards, once one is read
pub first_of : (xs : List Layout) (n u : ℕ) (x : Layout) → (n ≡ 0 → ⊥) → n ≤ length xs → x ≡ get_or xs 0 x → u ≡ both (defence x)
    → Some u ≡ first_cards (map defence (take n xs))
first_of xs zero u x p l e f = absurd (p refl)
first_of [] (suc n) u x p l e f = absurd (omega arith)
first_of (y ∷ ys) (suc n) u x p l e f = ap Some (f ∙ ap (λ (z : Layout). both (defence z)) e)

-- one more layout, written at the next place
pub one_more : (xs : List Layout) (i : ℕ) (x : Layout) → i < length xs
    → map defence (take (i + 1) (set xs i x)) ≡ map defence (take i xs) ++ (defence x ∷ [])
one_more xs i x l = ap (map defence) (take_more_set xs i x l) ∙ map_push defence (take i xs) x

module _ (n h0 h2 i : ℕ) (xs : List Layout) (s : Spot) (r : Result (List Defence) Fault)
    (left : i < n) (inv : layouts_at (n - i) h0 h2 (map defence (take i xs)) s ≡ r) where
  rest : Defence → Result (List Defence) Fault
  rest l = layouts_at (n - (i + 1)) h0 h2 (map defence (take i xs) ++ (l ∷ [])) (next_spot (next_spot s))

  opened : then (layout_at h0 h2 (first_cards (map defence (take i xs))) s) rest ≡ r
  unfolding rest
  opened =
      let e : n - i ≡ suc (n - (i + 1)) = omega arith in
      sym (ap (λ (m : ℕ). layouts_at m h0 h2 (map defence (take i xs)) s) e) ∙ inv

  -- a layout is read
  pub read_one : (x : Layout) (t : Spot) → i < length xs → Ok (defence x) ≡ layout_at h0 h2 (first_cards (map defence (take i xs))) s
      → t ≡ next_spot (next_spot s) → layouts_at (n - (i + 1)) h0 h2 (map defence (take (i + 1) (set xs i x))) t ≡ r
  unfolding rest
  read_one x t l e f =
      ap (λ (ls : List Defence). layouts_at (n - (i + 1)) h0 h2 ls t) (one_more xs i x l)
      ∙ ap (layouts_at (n - (i + 1)) h0 h2 (map defence (take i xs) ++ (defence x ∷ []))) f
      ∙ ap (λ (o : Result Defence Fault). then o rest) e ∙ opened

  -- a fault ends the reading
  pub read_fault : (e : Fault) → Err e ≡ layout_at h0 h2 (first_cards (map defence (take i xs))) s → Err e ≡ r
  read_fault e q = ap (λ (o : Result Defence Fault). then o rest) q ∙ opened

-- the end of the line
end_ok : {T : Type 0} (x : T) (ps : List (List ℕ)) (s : Spot) → Ok tt ≡ nothing_left {T = Unit {0}} ps s tt → nothing_left ps s x ≡ Ok x
end_ok x [] s e = refl
end_ok x (p ∷ ps) s e = let z : ◌≡◌ {A = ℕ} 0 1 = cc in absurd (omega arith)

end_err : {T : Type 0} (x : T) (ps : List (List ℕ)) (s : Spot) (f : Fault) → Err f ≡ nothing_left {T = Unit {0}} ps s tt → nothing_left ps s x ≡ Err f
end_err x [] s f e = let z : ◌≡◌ {A = ℕ} 0 1 = cc in absurd (omega arith)
end_err x (p ∷ ps) s f e = cc

module _ (n h0 h2 i : ℕ) (xs : List Layout) (s : Spot) (r : Result (List Defence) Fault)
    (done : i ≡ n) (inv : layouts_at (n - i) h0 h2 (map defence (take i xs)) s ≡ r) where
  ended : end_at (map defence (take n xs)) s ≡ r
  ended =
      let e : n - i ≡ 0 = omega arith in
      ap (λ (m : ℕ). end_at (map defence (take m xs)) s) (sym done) ∙ sym (ap (λ (m : ℕ). layouts_at m h0 h2 (map defence (take i xs)) s) e) ∙ inv

  pub all_read : Ok tt ≡ end_at {T = Unit {0}} tt s → Ok (map defence (take n xs)) ≡ r
  all_read e = sym (end_ok (map defence (take n xs)) s.rest s e) ∙ ended

  pub surplus : (f : Fault) → Err f ≡ end_at {T = Unit {0}} tt s → Err f ≡ r
  surplus f e = sym (end_err (map defence (take n xs)) s.rest s f e) ∙ ended
