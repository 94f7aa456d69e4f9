-- Scores: the operations of a score type, and the laws that they keep.
use Rattle.std.specs.Prelude.{◌≡◌, ℕ, ◌^◌, ◌<◌, Bool, true, ◌↔◌, Some, None, Option}

-- the operations of a score type whose scores are the type C
pub record Scoring (C : Type 0) : Type 0 where
  pub join : C → C → C
  pub meet : C → C → C
  pub bottom : C
  pub top : C
  -- whether the first is at or below the second
  pub below : C → C → Bool
  -- a score as a number, and a number as a score if it is one's code
  pub code : C → ℕ
  pub decode : ℕ → Option C

module _ {C : Type 0} where
  -- the order of the two makes no difference
  abbrev pub Commutes : (C → C → C) → Type 0
  Commutes f = (a b : C) → f a b ≡ f b a

  -- nor do the brackets among three
  abbrev pub Associates : (C → C → C) → Type 0
  Associates f = (a b c : C) → f (f a b) c ≡ f a (f b c)

  -- f of a and g of a and b is a
  abbrev pub Absorbs : (C → C → C) → (C → C → C) → Type 0
  Absorbs f g = (a b : C) → f a (g a b) ≡ a

  -- f goes into g
  abbrev pub Distributes : (C → C → C) → (C → C → C) → Type 0
  Distributes f g = (a b c : C) → f a (g b c) ≡ g (f a b) (f a c)

  -- e changes nothing under f
  abbrev pub Neutral : C → (C → C → C) → Type 0
  Neutral e f = (a : C) → f e a ≡ a

  -- the test is true exactly where the join is the second
  abbrev pub Orders : (C → C → Bool) → (C → C → C) → Type 0
  Orders test join = (a b : C) → (test a b ≡ true) ↔ (join a b ≡ b)

  -- a code is a number of 64 bits
  abbrev pub Fits : (C → ℕ) → Type 0
  Fits code = (a : C) → code a < 2 ^ 64

  -- a code reads as its score
  abbrev pub Reads : (C → ℕ) → (ℕ → Option C) → Type 0
  Reads code decode = (a : C) → decode (code a) ≡ Some a

  -- what reads as a score is its code, so that any other number reads as none
  abbrev pub Exact : (C → ℕ) → (ℕ → Option C) → Type 0
  Exact code decode = (n : ℕ) (a : C) → decode n ≡ Some a → code a ≡ n

-- the laws of scores: a bounded distributive lattice, with codes
pub record Laws {C : Type 0} (s : Scoring C) : Type 0 where
  pub join_commutes : Commutes s.join
  pub join_associates : Associates s.join
  pub meet_commutes : Commutes s.meet
  pub meet_associates : Associates s.meet
  pub join_absorbs : Absorbs s.join s.meet
  pub meet_absorbs : Absorbs s.meet s.join
  pub distributes : Distributes s.meet s.join
  pub bottom_neutral : Neutral s.bottom s.join
  pub top_neutral : Neutral s.top s.meet
  pub orders : Orders s.below s.join
  pub fits : Fits s.code
  pub reads : Reads s.code s.decode
  pub exact : Exact s.code s.decode

-- what is in an option, or else a given value
abbrev pub or_else : {C : Type 0} → C → Option C → C
or_else c None = c
or_else c (Some a) = a

-- the score that a number stands for: the one whose code it is, or bottom if it is no code
abbrev pub meant : {C : Type 0} → Scoring C → ℕ → C
meant s n = or_else s.bottom (s.decode n)

-- an option of a value as an option of what the value stands for
abbrev pub standing : {A C : Type 0} → (A → C) → Option A → Option C
standing f None = None
standing f (Some a) = Some (f a)
