-- Taking in the children of a turn one by one, from the last to the first, gives its plain value.
use Rattle.std.proofs.Common.{◌≡◌, ℕ, zero, suc, ◌-◌, ◌<◌, Some, refl, ap, ◌∙◌, arith}
use Rattle.std.proofs.lemmas.Option.{none-some}
use Rattle.lattice.specs.Scores.{Scoring}
use Rattle.games.specs.declared.side.Side.{Side}
use Rattle.games.specs.declared.side.Side.TheVariants.{Max, Min}
use Rattle.games.specs.Trees.{Tree, over, turn, Forest, none, also, side_of, children_of, count, place_or, child, plain, joined, met, Line}
use Rattle.games.specs.Evaluations.{at_first, chosen}

-- v with the values of the first n of the trees ts taken in
abbrev pub drawn : {S C : Type 0} → Scoring C → (S → C) → Side → (ℕ → Tree S) → ℕ → C → C
drawn o stands d ts zero v = v
drawn o stands d ts (suc n) v = drawn o stands d ts n (chosen o d (plain o stands (ts n)) v)

-- one more child is taken in: what gives the position's value with n to go gives it with n - 1;
-- m is the line l as it was found again
pub drawn_more : {S C : Type 0} (o : Scoring C) (stands : S → C) (d : Side) (l m : Line S) → m ≡ l → (n : ℕ) → 0 < n
    → (v : C) {w a : C}
    → drawn o stands d (child l.present) n v ≡ plain o stands l.present
    → a ≡ plain o stands (child m.present (n - 1)) → w ≡ chosen o d a v
    → drawn o stands d (child l.present) (n - 1) w ≡ plain o stands l.present
drawn_more o stands d l m e zero h v so_far one with_it = absurd (omega arith)
drawn_more o stands d l m e (suc n) h v so_far one with_it =
    let back : suc n - 1 ≡ n = omega arith in
    let a_is = one ∙ ap (λ (x : Line _). plain o stands (child x.present (suc n - 1))) e in
    ap (drawn o stands d (child l.present) (suc n - 1)) (with_it ∙ ap (λ (x : _). chosen o d x v) a_is)
    ∙ ap (λ (i : ℕ). drawn o stands d (child l.present) i (chosen o d (plain o stands (child l.present i)) v)) back
    ∙ so_far

module _ {S C : Type 0} (o : Scoring C) (stands : S → C) (d : Side) where
  -- the first tree is taken in last
  drawn_first : (ts : ℕ → Tree S) (n : ℕ) (v : C)
      → drawn o stands d ts (suc n) v ≡ chosen o d (plain o stands (ts 0)) (drawn o stands d (λ i. ts (suc i)) n v)
  drawn_first ts zero v = refl
  drawn_first ts (suc n) v = drawn_first ts n (chosen o d (plain o stands (ts (suc n))) v)

module _ {S C : Type 0} (o : Scoring C) (stands : S → C) (x : Tree S) where
  drawn_joined : (ts : Forest S) → drawn o stands Max (place_or x ts) (count ts) o.bottom ≡ joined o stands ts
  drawn_joined none = refl
  drawn_joined (also t ts) =
      drawn_first o stands Max (place_or x (also t ts)) (count ts) o.bottom
      ∙ ap (o.join (plain o stands t)) (drawn_joined ts)

  drawn_met : (ts : Forest S) → drawn o stands Min (place_or x ts) (count ts) o.top ≡ met o stands ts
  drawn_met none = refl
  drawn_met (also t ts) =
      drawn_first o stands Min (place_or x (also t ts)) (count ts) o.top
      ∙ ap (o.meet (plain o stands t)) (drawn_met ts)

-- the children of a turn, all taken in, give its plain value
pub drawn_plain : {S C : Type 0} (o : Scoring C) (stands : S → C) (t : Tree S) (d : Side) → side_of t ≡ Some d
    → drawn o stands d (child t) (count (children_of t)) (at_first o d) ≡ plain o stands t
drawn_plain o stands (over k h s) d e = absurd (none-some d e)
drawn_plain o stands (turn k h Max ts) Max e = drawn_joined o stands (turn k h Max ts) ts
drawn_plain o stands (turn k h Min ts) Min e = drawn_met o stands (turn k h Min ts) ts
drawn_plain o stands (turn k h Max ts) Min e = let z : ◌≡◌ {A = ℕ} 0 1 = cc in absurd (omega arith)
drawn_plain o stands (turn k h Min ts) Max e = let z : ◌≡◌ {A = ℕ} 0 1 = cc in absurd (omega arith)
