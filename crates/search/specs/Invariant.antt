-- What holds of a search between its steps, and what is still to come.
use Rattle.std.specs.Prelude.{◌≡◌, ℕ, suc, ◌+◌, ◌*◌, ◌^◌, ◌<◌, true, cond, List, [], ◌∷◌, length, Some, bit_or}
use Rattle.bitsets.specs.Sets.{has}
use Rattle.lattice.specs.declared.bracket.Bracket.{Bracket}
use Rattle.lattice.specs.Scores.{Scoring}
use Rattle.lattice.specs.Windows.{Under, Around}
use Rattle.lattice.proofs.Order.{Settles}
use Rattle.games.specs.declared.side.Side.{Side}
use Rattle.games.specs.declared.side.Side.TheVariants.{Max, Min}
use Rattle.games.specs.Trees.{Tree, over, turn, Forest, none, also, Line, key_of, height_of, count, children_of, child, place_or, size, plain, joined, met, loaded, Within}
use Rattle.tables.specs.declared.claim.Claim.{Claim}
use Rattle.tables.specs.Tables.{TableOps}
use Rattle.search.specs.declared.frame.Frame.{Frame}
use Rattle.search.specs.declared.frame.Hand.{Hand}
use Rattle.search.specs.declared.frame.Hand.TheVariants.{Enter, Holding, Nothing}
use Rattle.search.specs.Steps.{Search, narrowed}

module _ {S C : Type 0} (o : Scoring C) (st : S → C) where
  -- the bracket b bounds the children ts of t at the places in the set n: at Max from above one by one,
  -- and all of them from below by a value that their join reaches; at Min the other way round
  abbrev pub Bounds : Side → Tree S → Forest S → Bracket C → ℕ → Type 0
  Bounds Max t ts b n =
      Under o b.lo (joined o st ts) × ((p : ℕ) → p < count ts → has n p ≡ true → Under o (plain o st (place_or t ts p)) b.hi)
  Bounds Min t ts b n =
      Under o (met o st ts) b.hi × ((p : ℕ) → p < count ts → has n p ≡ true → Under o b.lo (plain o st (place_or t ts p)))

  -- what an open position with the window w has found of the children at the places in the set n
  pub record Fair (d : Side) (t : Tree S) (ts : Forest S) (w b : Bracket C) (n : ℕ) : Type 0 where
    pub small : n < 2 ^ 64
    pub settles : Settles o w b
    pub bounds : Bounds d t ts b n

  -- the same of a position; one that is over is not open
  abbrev pub Open : Tree S → Bracket C → Bracket C → ℕ → Type 0
  Open (over k h v) w b n = ⊥
  Open (turn k h d ts) w b n = Fair d (turn k h d ts) ts w b n

  -- the window for the next child of a position
  abbrev pub child_window : Tree S → Frame C → Bracket C
  child_window (over k h v) f = f.window
  child_window (turn k h d ts) f = narrowed o d f

  -- the frame f of the position u, whose child t is being searched with the window w
  pub record Pending (t : Tree S) (w : Bracket C) (u : Tree S) (f : Frame C) : Type 0 where
    pub place : ℕ
    pub before : ℕ
    pub inside : place < count (children_of u)
    pub is : child u place ≡ t
    pub mark : f.taken.0 ≡ bit_or before (2 ^ place)
    pub fair : Open u f.window f.found before
    pub asked : child_window u f ≡ w

  module _ (base : Line S) (w₀ : Bracket C) where
    -- over the frames fs, the position t after the positions us is being searched with the window w,
    -- in a search of base with the window w₀
    abbrev pub Waits : Tree S → List (Tree S) → Bracket C → List (Frame C) → Type 0
    Waits t us w [] = (base.present ≡ t) × (base.earlier ≡ us) × (w₀ ≡ w)
    Waits t [] w (f ∷ fs) = ⊥
    Waits t (u ∷ us) w (f ∷ fs) = Pending t w u f × Waits u us f.window fs

    -- a bracket in hand holds the value of the present position and settles its window
    abbrev pub Running : Tree S → List (Tree S) → List (Frame C) → Hand C → Type 0
    Running t us fs (Enter w) = Waits t us w fs
    Running t us fs (Holding b) = (w : Bracket C) × Waits t us w fs × Around o b (plain o st t) × Settles o w b
    Running t us [] Nothing = ⊥
    Running t us (f ∷ fs) Nothing = Open t f.window f.found f.taken.0 × Waits t us f.window fs

    abbrev pub Underway : {M P : Type 0} → Search S C M P → Type 0
    Underway s = Running s.line.present s.line.earlier s.frames s.hand

  -- every claim held is true of the positions within the root that have its key
  abbrev pub Honest : {M : Type 0} → TableOps M → Tree S → M → Type 0
  Honest tb root m =
      (c : Claim) → tb.holds m c → (t : Tree S) → Within t root → key_of t ≡ c.key
      → (l h : C) → o.decode c.lo ≡ Some l → o.decode c.hi ≡ Some h → Around o (record { lo = l; hi = h }) (plain o st t)

  -- the invariant of a search of base with the window w₀
  pub record Invariant {M P : Type 0} (tb : TableOps M) (base : Line S) (w₀ : Bracket C) (s : Search S C M P) : Type 0 where
    pub underway : Underway base w₀ s
    -- the stack has more places than the first position is high
    pub room : height_of base.present < s.places
    pub honest : Honest tb (loaded base) s.table

-- the positions of the children, from the place i on, that are not in the set n
abbrev pub untaken : {S : Type 0} → ℕ → ℕ → Forest S → ℕ
untaken n i none = 0
untaken n i (also c cs) = cond (has n i) 0 (size c) + untaken n (suc i) cs

module _ {S C : Type 0} where
  -- the positions that the frames have still to enter
  abbrev pub stacked : List (Tree S) → List (Frame C) → ℕ
  stacked us [] = 0
  stacked [] (f ∷ fs) = 0
  stacked (u ∷ us) (f ∷ fs) = untaken f.taken.0 0 (children_of u) + stacked us fs

  abbrev pub ahead : Tree S → List (Tree S) → List (Frame C) → Hand C → ℕ
  ahead t us fs (Enter w) = size t + stacked us fs
  ahead t us fs (Holding b) = stacked us fs
  ahead t us [] Nothing = 0
  ahead t us (f ∷ fs) Nothing = untaken f.taken.0 0 (children_of t) + stacked us fs

abbrev pub phase : {C : Type 0} → Hand C → ℕ
phase (Enter w) = 0
phase (Holding b) = 2
phase Nothing = 1

module _ {S C M P : Type 0} where
  -- the positions that a search may still enter
  abbrev pub to_enter : Search S C M P → ℕ
  to_enter s = ahead s.line.present s.line.earlier s.frames s.hand

  -- the steps that it may still do, and one or two more
  abbrev pub to_do : Search S C M P → ℕ
  to_do s = 4 * to_enter s + 2 * length s.frames + phase s.hand
