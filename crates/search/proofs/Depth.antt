-- Where a search stands: within the loaded position, and no deeper than its first position is high.
use Rattle.std.proofs.Common.{◌≡◌, ◌+◌, ◌<◌, ◌≤◌, List, [], ◌∷◌, length, ap, subst, arith}
use Rattle.lattice.specs.declared.bracket.Bracket.{Bracket}
use Rattle.lattice.specs.Scores.{Scoring}
use Rattle.games.specs.Trees.{Tree, Line, height_of, loaded, last_of, Linked, Within, here, Lawful}
use Rattle.search.specs.declared.frame.Frame.{Frame}
use Rattle.search.specs.Invariant.{Waits}
use Rattle.search.proofs.Forests.{deeper}

linked_within : {S : Type 0} (t : Tree S) (us : List (Tree S)) → Linked t us → Within t (last_of t us)
linked_within t [] e = here
linked_within t (u ∷ us) e =
    subst (λ x. Within x (last_of u us)) e.0.2 (deeper e.0.0 e.0.1 (linked_within u us e.1))

module _ {S C : Type 0} (o : Scoring C) (st : S → C) (base : Line S) (w₀ : Bracket C) (ok : Lawful base) where
  pub waits_within : (t : Tree S) (us : List (Tree S)) (w : Bracket C) (fs : List (Frame C)) → Waits o st base w₀ t us w fs → Within t (loaded base)
  waits_within t us w [] e = subst (λ x. Within x (loaded base)) e.0 (linked_within base.present base.earlier ok.linked)
  waits_within t [] w (f ∷ fs) e = absurd e
  waits_within t (u ∷ us) w (f ∷ fs) e =
      subst (λ x. Within x (loaded base)) e.0.is (deeper e.0.place e.0.inside (waits_within u us f.window fs e.1))

  -- so a stack with more places than the first position is high has room for one more frame
  pub waits_deep : (t : Tree S) (us : List (Tree S)) (w : Bracket C) (fs : List (Frame C)) → Waits o st base w₀ t us w fs
      → length fs + height_of t ≤ height_of base.present
  waits_deep t us w [] e = let z : height_of base.present ≡ height_of t = ap (λ x. height_of x) e.0 in omega arith
  waits_deep t [] w (f ∷ fs) e = absurd e
  waits_deep t (u ∷ us) w (f ∷ fs) e =
      let r = waits_deep u us f.window fs e.1 in
      let i = waits_within u us f.window fs e.1 in
      let z : height_of t < height_of u =
      subst (λ x. height_of x < height_of u) e.0.is (ok.falls u e.0.place i e.0.inside) in
      omega (arith, r)
