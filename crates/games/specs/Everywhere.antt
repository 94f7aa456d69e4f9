-- A fact of every position of a tree holds of each that comes after its first: for a game's law.
use Rattle.std.specs.Prelude.{ℕ, zero, suc, ◌<◌}
use Rattle.std.proofs.Common.{arith}
use Rattle.games.specs.Trees.{Tree, over, turn, Forest, none, also, children_of, count, place_or, child, Within, here, below}

-- P holds of every position of a tree, and of every one of these trees
abbrev mutual
  pub Every : {S : Type 0} → (Tree S → Type 0) → Tree S → Type 0
  Every P (over k h s) = P (over k h s)
  Every P (turn k h d ts) = P (turn k h d ts) × EveryOf P ts

  pub EveryOf : {S : Type 0} → (Tree S → Type 0) → Forest S → Type 0
  EveryOf P none = Unit {0}
  EveryOf P (also t ts) = Every P t × EveryOf P ts

module _ {S : Type 0} (P : Tree S → Type 0) where
  of_first : (t : Tree S) → Every P t → P t
  of_first (over k h s) e = e
  of_first (turn k h d ts) e = e.0

  of_place : (d : Tree S) (ts : Forest S) (n : ℕ) → EveryOf P ts → n < count ts → Every P (place_or d ts n)
  of_place d none n e h = absurd (omega arith)
  of_place d (also t ts) zero e h = e.0
  of_place d (also t ts) (suc n) e h = of_place d ts n e.1 (omega arith)

  of_child : (t : Tree S) (n : ℕ) → Every P t → n < count (children_of t) → Every P (child t n)
  of_child (over k h s) n e less = absurd (omega arith)
  of_child (turn k h d ts) n e less = of_place (turn k h d ts) ts n e.1 less

  pub everywhere : {t u : Tree S} → Every P u → Within t u → P t
  everywhere {t = t} e here = of_first t e
  everywhere e (below {u = u} n less rest) = everywhere (of_child u n e less) rest
