-- Plans: what one way of playing seats 0 and 2 makes in each layout, without reference to scores.
use Rattle.std.specs.Prelude.{◌≡◌, ℕ, ◌<◌, ◌≤◌, true, List, [], ◌∷◌, ◌++◌, count_ones, slice_index_or}
use Rattle.games.specs.declared.side.Side.TheVariants.{Max, Min}
use Rattle.bitsets.specs.Sets.{has}
use Rattle.cardplay.specs.Cards.{Dealt, Layout, Play, legal_in, legal, after_card, side}

-- the layout of a number that none has
abbrev pub nowhere : Layout
nowhere = record { zeroth = 0; first = 0; second = 0; third = 0 }

module _ (d : Dealt) where
  -- a plan: the card that it plays, by the cards played since the position, oldest first
  abbrev pub Plan : Type 0
  Plan = List ℕ → ℕ

  -- from p, by some cards that were legal in turn, to q
  pub data Reaches (p : Play) : List ℕ → Play → Type 0 where
    start : Reaches p [] p
    next : {cs : List ℕ} {q : Play} (c : ℕ) → Reaches p cs q → legal d q c ≡ true → Reaches p (cs ++ (c ∷ [])) (after_card d q c)

  -- wherever seat 0 or 2 plays, the card of the plan is legal
  abbrev pub Chooses : Plan → Play → Type 0
  Chooses f p = (cs : List ℕ) (q : Play) → Reaches p cs q → 0 < count_ones q.unplayed → side d q ≡ Max → legal d q (f cs) ≡ true

  -- a way from p that follows the plan, in which seats 1 and 3 play only cards legal in the layout l
  pub data Way (f : Plan) (l : Layout) (p : Play) : List ℕ → Play → Type 0 where
    start : Way f l p [] p
    ours : {cs : List ℕ} {q : Play} → Way f l p cs q → 0 < count_ones q.unplayed → side d q ≡ Max → Way f l p (cs ++ (f cs ∷ [])) (after_card d q (f cs))
    theirs : {cs : List ℕ} {q : Play} (c : ℕ) → Way f l p cs q → 0 < count_ones q.unplayed → side d q ≡ Min → legal_in d q l c ≡ true → Way f l p (cs ++ (c ∷ [])) (after_card d q c)

  -- the plan makes the target in layout i: in a live one on every way to the end, in any other always
  abbrev pub Makes : ℕ → Plan → Play → ℕ → Type 0
  Makes target f p i =
      has p.live i ≡ true → (cs : List ℕ) (q : Play) → Way f (slice_index_or d.layouts i nowhere) p cs q → count_ones q.unplayed ≡ 0 → target ≤ q.won

  -- one plan makes the target in each layout of a set
  abbrev pub OnePlan : ℕ → Play → ℕ → Type 0
  OnePlan target p set =
      (f : Plan) × (Chooses f p × ((i : ℕ) → i < 6 → has set i ≡ true → Makes target f p i))
