-- Positions as finite trees, their plain values and sizes, and the line of positions that a game stands in.
-- A position is over, with a score of type S, or a turn of Max or Min with its children in order.
-- Each position has a key, by which a table knows it, and a height, which falls from a position to its children.
use Rattle.std.specs.Prelude.{◌≡◌, ℕ, zero, suc, ◌+◌, ◌<◌, ◌≤◌, Bool, true, false, cond, List, [], ◌∷◌, Some, None, Option, nat_lt}
use Rattle.lattice.specs.Scores.{Scoring}
use Rattle.games.specs.declared.key.Key.{Key}
use Rattle.games.specs.declared.side.Side.{Side}
use Rattle.games.specs.declared.side.Side.TheVariants.{Max, Min}

mutual
  -- a position: over, with its key, height and score; or a turn, with its key, height, side to move and children
  pub data Tree (S : Type 0) : Type 0 where
    over : Key → ℕ → S → Tree S
    turn : Key → ℕ → Side → Forest S → Tree S

  -- the children of a position, in order
  pub data Forest (S : Type 0) : Type 0 where
    none : Forest S
    also : Tree S → Forest S → Forest S

module _ {S : Type 0} where
  abbrev pub key_of : Tree S → Key
  key_of (over k h s) = k
  key_of (turn k h d ts) = k

  abbrev pub height_of : Tree S → ℕ
  height_of (over k h s) = h
  height_of (turn k h d ts) = h

  abbrev pub side_of : Tree S → Option Side
  side_of (over k h s) = None
  side_of (turn k h d ts) = Some d

  abbrev pub score_of : Tree S → Option S
  score_of (over k h s) = Some s
  score_of (turn k h d ts) = None

  abbrev pub children_of : Tree S → Forest S
  children_of (over k h s) = none
  children_of (turn k h d ts) = ts

  abbrev pub count : Forest S → ℕ
  count none = 0
  count (also t ts) = suc (count ts)

  -- the tree at a place; past the last, d
  abbrev pub place_or : Tree S → Forest S → ℕ → Tree S
  place_or d none n = d
  place_or d (also t ts) zero = t
  place_or d (also t ts) (suc n) = place_or d ts n

  -- the child at a place; past the last, the position itself
  abbrev pub child : Tree S → ℕ → Tree S
  child t n = place_or t (children_of t) n

abbrev mutual
  -- the number of positions of a tree
  pub size : {S : Type 0} → Tree S → ℕ
  size (over k h s) = 1
  size (turn k h d ts) = suc (sizes ts)

  pub sizes : {S : Type 0} → Forest S → ℕ
  sizes none = 0
  sizes (also t ts) = size t + sizes ts

abbrev mutual
  -- the plain value: the score when over, else the join or the meet of the children's; stands gives a value's score
  pub plain : {S C : Type 0} → Scoring C → (S → C) → Tree S → C
  plain o stands (over k h s) = stands s
  plain o stands (turn k h Max ts) = joined o stands ts
  plain o stands (turn k h Min ts) = met o stands ts

  pub joined : {S C : Type 0} → Scoring C → (S → C) → Forest S → C
  joined o stands none = o.bottom
  joined o stands (also t ts) = o.join (plain o stands t) (joined o stands ts)

  pub met : {S C : Type 0} → Scoring C → (S → C) → Forest S → C
  met o stands none = o.top
  met o stands (also t ts) = o.meet (plain o stands t) (met o stands ts)

-- where a game stands: the present position, and those before it back to the loaded one
pub record Line (S : Type 0) : Type 0 where
  pub present : Tree S
  pub earlier : List (Tree S)

module _ {S : Type 0} where
  abbrev pub last_of : Tree S → List (Tree S) → Tree S
  last_of t [] = t
  last_of t (u ∷ us) = last_of u us

  -- the loaded position, at which the line begins
  abbrev pub loaded : Line S → Tree S
  loaded l = last_of l.present l.earlier

  -- whether there is a child at a place, and the line once it is played; nothing changes where there is none
  abbrev pub can_play : Line S → ℕ → Bool
  can_play l n = nat_lt n (count (children_of l.present))

  abbrev pub after_play : Line S → ℕ → Line S
  after_play l n = cond (can_play l n) (record { present = child l.present n; earlier = l.present ∷ l.earlier }) l

  abbrev pub some_earlier : List (Tree S) → Bool
  some_earlier [] = false
  some_earlier (t ∷ ts) = true

  -- whether there is a position before, and the line once the play is taken back; nothing changes at the loaded one
  abbrev pub can_take_back : Line S → Bool
  can_take_back l = some_earlier l.earlier

  abbrev pub without_last : Tree S → List (Tree S) → Line S
  without_last t [] = record { present = t; earlier = [] }
  without_last t (u ∷ us) = record { present = u; earlier = us }

  abbrev pub after_take_back : Line S → Line S
  after_take_back l = without_last l.present l.earlier

  -- Within t u: t is u or comes after u
  pub data Within (t : Tree S) : Tree S → Type 0 where
    here : Within t t
    below : {u : Tree S} (n : ℕ) → n < count (children_of u) → Within t (child u n) → Within t u

  -- each position is a child of the one before it
  abbrev pub Linked : Tree S → List (Tree S) → Type 0
  Linked t [] = Unit {0}
  Linked t (u ∷ us) = ((n : ℕ) × (n < count (children_of u)) × (child u n ≡ t)) × Linked u us

  -- what a game's meaning must satisfy: in all that comes after the loaded position, no more than 64 children,
  -- a child for each turn, heights that fall, and keys that tell positions apart
  pub record Lawful (l : Line S) : Type 0 where
    pub linked : Linked l.present l.earlier
    pub few : (t : Tree S) → Within t (loaded l) → count (children_of t) ≤ 64
    pub some : (k : Key) (h : ℕ) (d : Side) (ts : Forest S) → Within (turn k h d ts) (loaded l) → 1 ≤ count ts
    pub falls : (t : Tree S) (n : ℕ) → Within t (loaded l) → n < count (children_of t) → height_of (child t n) < height_of t
    pub low : height_of (loaded l) ≤ 65535
    pub keyed : (t u : Tree S) → Within t (loaded l) → Within u (loaded l) → key_of t ≡ key_of u → t ≡ u
