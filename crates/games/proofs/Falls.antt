-- Heights fall with each play: the present position comes after the loaded one, of which the law speaks.
use Rattle.std.proofs.Common.{◌≡◌, ℕ, ◌<◌, List, [], ◌∷◌, sym, subst}
use Rattle.std.proofs.lemmas.Bool.{cond_below}
use Rattle.games.specs.Trees.{Tree, height_of, children_of, count, child, Line, last_of, after_play, Within, here, below, Linked, Lawful}

module _ {S : Type 0} where
  child_within : {u w : Tree S} (n : ℕ) → Within u w → n < count (children_of u) → Within (child u n) w
  child_within n here h = below n h here
  child_within n (below m k rest) h = below m k (child_within n rest h)

  present_within : (t : Tree S) (us : List (Tree S)) → Linked t us → Within t (last_of t us)
  present_within t [] linked = here
  present_within t (u ∷ us) linked =
      subst (λ (x : Tree S). Within x (last_of u us)) linked.0.2
      (child_within linked.0.0 (present_within u us linked.1) linked.0.1)

  -- the line m after a play from the line l has a lower present position
  pub lower : (l m : Line S) (n : ℕ) → Lawful l → n < count (children_of l.present) → m ≡ after_play l n
      → height_of m.present < height_of l.present
  lower l m n law h e =
      let Low : Line S → Type 0 = λ x. height_of x.present < height_of l.present in
      subst Low (sym e)
      (subst Low (cond_below n (count (children_of l.present)) _ l h)
      (law.falls l.present n (present_within l.present l.earlier law.linked) h))
