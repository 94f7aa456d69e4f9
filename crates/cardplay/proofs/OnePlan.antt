-- The plan theorem, by the number of unplayed cards: a plan is put together from plans after its first card, and taken apart.
use Rattle.std.proofs.Common.{◌≡◌, ℕ, zero, suc, ◌+◌, ◌%◌, ◌<◌, ◌≤◌, Bool, true, false, cond, ◌&&◌, eqb, ◌⊎◌, List, [], ◌∷◌, length, sym, refl, ap, ◌∙◌, subst, inl, inr, mod-lt, arith, lit<}
use lib.Bits.{bit_and}
use lib.Count.{ones}
use Rattle.std.proofs.lemmas.Bool.{both_ways, eqb-true, cases_lt, cases_eq, cases_Bool}
use Rattle.bitsets.specs.Sets.{has}
use Rattle.bitsets.proofs.Digits.{has_all, has_zero, has_below, has_pow, or_has, or_has_l, or_has_r, and_has, and_has_l, and_has_r, test_false}
use Rattle.lattice.specs.FamilyScores.{FamilyScore, family_scoring}
use Rattle.games.specs.declared.side.Side.{Side}
use Rattle.games.specs.declared.side.Side.TheVariants.{Max, Min}
use Rattle.games.specs.Trees.{Tree, turn, Forest, plain, joined, met}
use Rattle.cardplay.specs.Cards.{hand, Dealt, Play, to_play, follows, legal_in, legal, after_card, legal_cards, card_key, side, grown, tree}
use Rattle.cardplay.specs.Plans.{Plan, start, Chooses, Way, ours, theirs, Makes, OnePlan}
use Rattle.cardplay.specs.Deals.{layout, ValidDeal}
use Rattle.cardplay.specs.PlanScores.{plan_score}
use Rattle.cardplay.specs.PlanTheorem.{PlanTheorem}
use Rattle.cardplay.proofs.Legal.{In, LegalIn, legal_where, where_legal, live_where, where_live, cards_legal, legal_card}
use Rattle.cardplay.proofs.Reach.{Good, good_after, good_reached, card_small, after_ones, after_live, live_small}
use Rattle.cardplay.proofs.PlanScores.{Scores, score_means, means_score}
use Rattle.cardplay.proofs.Ways.{Front, here, there, front, reaches_cons, First, none_yet, ours_first, theirs_first, first_of, way_cons, ended, lowest, lowest_chooses}

-- the plain value of a tree of the plan game, as a number, and those of its children together
abbrev value : Tree FamilyScore → ℕ
value t = (plain family_scoring (λ s. s) t).number

abbrev joined_value : Forest FamilyScore → ℕ
joined_value ts = (joined family_scoring (λ s. s) ts).number

abbrev met_value : Forest FamilyScore → ℕ
met_value ts = (met family_scoring (λ s. s) ts).number

-- ---- joins and meets of families over the cards of a list

module _ (d : Dealt) (score : Play → FamilyScore) (f : ℕ → Tree FamilyScore) (s : ℕ) where
  abbrev Holds : ℕ → Type 0
  Holds c = has (value (f c)) s ≡ true

  joined_some : (cs : List ℕ) → has (joined_value (grown d score f cs)) s ≡ true → (s ≡ 0) ⊎ ((c : ℕ) × In c cs × Holds c)
  joined_some [] h = inl (eqb-true s 0 (sym (has_pow 0 s) ∙ h))
  joined_some (c ∷ cs) h =
      by (joined_some cs) (or_has (value (f c)) (joined_value (grown d score f cs)) s h)
    where
      more : (s ≡ 0) ⊎ ((x : ℕ) × In x cs × Holds x) → (s ≡ 0) ⊎ ((x : ℕ) × In x (c ∷ cs) × Holds x)
      more (inl e) = inl e
      more (inr (x, i, w)) = inr (x, inr i, w)

      by : (has (joined_value (grown d score f cs)) s ≡ true → (s ≡ 0) ⊎ ((x : ℕ) × In x cs × Holds x))
          → Holds c ⊎ (has (joined_value (grown d score f cs)) s ≡ true) → (s ≡ 0) ⊎ ((x : ℕ) × In x (c ∷ cs) × Holds x)
      by ih (inl w) = inr (c, inl refl, w)
      by ih (inr w) = more (ih w)

  some_joined : (cs : List ℕ) (c : ℕ) → In c cs → Holds c → has (joined_value (grown d score f cs)) s ≡ true
  some_joined [] c i w = absurd i
  some_joined (x ∷ cs) c (inl e) w =
      or_has_l (value (f x)) (joined_value (grown d score f cs)) s (subst (λ (y : ℕ). Holds y) e w)
  some_joined (x ∷ cs) c (inr i) w =
      or_has_r (value (f x)) (joined_value (grown d score f cs)) s (some_joined cs c i w)

  met_each : (cs : List ℕ) (c : ℕ) → has (met_value (grown d score f cs)) s ≡ true → In c cs → Holds c
  met_each [] c h i = absurd i
  met_each (x ∷ cs) c h (inl e) =
      subst (λ (y : ℕ). Holds y) (sym e) (and_has_l (value (f x)) (met_value (grown d score f cs)) s h)
  met_each (x ∷ cs) c h (inr i) =
      met_each cs c (and_has_r (value (f x)) (met_value (grown d score f cs)) s h) i

  each_met : (cs : List ℕ) → s < 64 → ((c : ℕ) → In c cs → Holds c) → has (met_value (grown d score f cs)) s ≡ true
  each_met [] l h = has_all 64 s l
  each_met (x ∷ cs) l h =
      and_has (value (f x)) (met_value (grown d score f cs)) s (h x (inl refl)) (each_met cs l (λ c i. h c (inr i)))

module _ (d : Dealt) (v : ValidDeal d) where
  -- ---- at seats 0 and 2 a legal card keeps every live layout

  max_test : (b : Bool) → cond b Max Min ≡ Max → b ≡ true
  max_test true e = refl
  max_test false e = cc

  not_both : (x : Side) → x ≡ Max → x ≡ Min → ⊥
  not_both x e f = let z : ◌≡◌ {A = ℕ} 0 1 = cc in omega arith

  same_hand : (k i j : ℕ) → k < 4 → k % 2 ≡ 0 → i < length d.layouts → j < length d.layouts → hand (layout d i) k ≡ hand (layout d j) k
  same_hand zero i j h e a b = v.same_0 i a ∙ sym (v.same_0 j b)
  same_hand (suc zero) i j h e a b = absurd (omega arith)
  same_hand (suc (suc zero)) i j h e a b = v.same_2 i a ∙ sym (v.same_2 j b)
  same_hand (suc (suc (suc zero))) i j h e a b = absurd (omega arith)
  same_hand (suc (suc (suc (suc k)))) i j h e a b = absurd (omega arith)

  pub legal_in_all : (p : Play) (c i : ℕ) → Good d p → side d p ≡ Max → legal d p c ≡ true → has p.live i ≡ true → LegalIn d p c i
  legal_in_all p c i g m h a =
      let w = legal_where d p c h in
      let l = g.listed i a in
      let e = same_hand (to_play d p) w.0 i (mod-lt (p.leader + length p.trick) (lit< tt))
      (eqb-true (to_play d p % 2) 0 (max_test (eqb (to_play d p % 2) 0) m)) w.1.listed l in
      record {
        listed = l;
        alive = a;
        there = subst (λ (x : ℕ). (has (bit_and x p.unplayed) c && follows (bit_and x p.unplayed) p.trick c) ≡ true) e w.1.there;
      }

  -- ---- plans put together by the first card, and taken apart

  abbrev led : ℕ → (ℕ → Plan d) → Plan d
  led a f [] = a
  led a f (c ∷ cs) = f c cs

  chooses_led : (p : Play) (a : ℕ) (f : ℕ → Plan d) → (side d p ≡ Max → legal d p a ≡ true)
      → ((c : ℕ) → legal d p c ≡ true → Chooses d (f c) (after_card d p c)) → Chooses d (led a f) p
  chooses_led p a f x y cs q r = by x y (front d r)
    where
      by : {p : Play} {cs : List ℕ} {q : Play} → (side d p ≡ Max → legal d p a ≡ true)
          → ((c : ℕ) → legal d p c ≡ true → Chooses d (f c) (after_card d p c)) → Front d p cs q
          → 0 < ones q.unplayed → side d q ≡ Max → legal d q (led a f cs) ≡ true
      by x y here o m = x m
      by {q = q} x y (there {cs} c h r) o m = y c h cs q r o m

  module _ (target : ℕ) where
    -- a plan after one card more
    shifted_chooses : (f : Plan d) (p : Play) (c : ℕ) → Chooses d f p → legal d p c ≡ true → Chooses d (λ xs. f (c ∷ xs)) (after_card d p c)
    shifted_chooses f p c h l cs q r o m = h (c ∷ cs) q (reaches_cons d c l r) o m

    after_where : (p : Play) (c i : ℕ) → has (after_card d p c).live i ≡ true → LegalIn d p c i
    after_where p c i a = live_where d p c i (subst (λ (x : ℕ). has x i ≡ true) (after_live d p c) a)

    where_after : (p : Play) (c i : ℕ) → LegalIn d p c i → has (after_card d p c).live i ≡ true
    where_after p c i w = subst (λ (x : ℕ). has x i ≡ true) (sym (after_live d p c)) (where_live d p c i w)

    -- the parts of a plan, at a Max and at a Min position
    max_plan : (p : Play) (s : ℕ) → Good d p → 0 < ones p.unplayed → side d p ≡ Max
        → OnePlan d target p s → (c : ℕ) × (legal d p c ≡ true) × OnePlan d target (after_card d p c) s
    max_plan p s g o m (f, (h, k)) =
        let c = f [] in
        let l = h [] p start o m in (
          c,
          l,
          (
            (λ xs. f (c ∷ xs)),
            (
              shifted_chooses f p c h l,
              λ i b e a cs q w z.
                  k i b e (after_where p c i a).alive (c ∷ cs) q (way_cons d c (ours start o m) w) z,
            ),
          ),
        )

    min_plan : (p : Play) (s c : ℕ) → 0 < ones p.unplayed → side d p ≡ Min
        → OnePlan d target p s → legal d p c ≡ true → OnePlan d target (after_card d p c) s
    min_plan p s c o m (f, (h, k)) l = (
      (λ xs. f (c ∷ xs)),
      (
        shifted_chooses f p c h l,
        λ i b e a cs q w z.
            let y = after_where p c i a in
            k i b e y.alive (c ∷ cs) q (way_cons d c (theirs c start o m y.there) w) z,
      ),
    )

    makes_max : (p : Play) (a i : ℕ) (f : ℕ → Plan d) → 0 < ones p.unplayed → side d p ≡ Max → (has p.live i ≡ true → LegalIn d p a i)
        → Makes d target (f a) (after_card d p a) i → Makes d target (led a f) p i
    makes_max p a i f o m y k u cs q w z = by o m (k (where_after p a i (y u))) (first_of d w) z
      where
        by : {p : Play} {cs : List ℕ} {q : Play} → 0 < ones p.unplayed → side d p ≡ Max
            → ((cs : List ℕ) (q : Play) → Way d (f a) (layout d i) (after_card d p a) cs q → ones q.unplayed ≡ 0 → target ≤ q.won)
            → First d (led a f) (layout d i) p cs q → ones q.unplayed ≡ 0 → target ≤ q.won
        by o m k none_yet z = absurd (omega arith)
        by {q = q} o m k (ours_first {cs} b e w) z = k cs q w z
        by {p = p} o m k (theirs_first c b e j w) z = absurd (not_both (side d p) m e)

    makes_min : (p : Play) (a i : ℕ) (f : ℕ → Plan d) → 0 < ones p.unplayed → side d p ≡ Min → Good d p
        → ((c : ℕ) → legal d p c ≡ true → Makes d target (f c) (after_card d p c) i) → Makes d target (led a f) p i
    makes_min p a i f o m g k u cs q w z = by o m (λ c e. k c (where_legal d p c i (there_in c e)) (where_after p c i (there_in c e))) (first_of d w) z
      where
        there_in : (c : ℕ) → legal_in d p (layout d i) c ≡ true → LegalIn d p c i
        there_in c e = record { listed = g.listed i u; alive = u; there = e }

        by : {p : Play} {cs : List ℕ} {q : Play} → 0 < ones p.unplayed → side d p ≡ Min
            → ((c : ℕ) → legal_in d p (layout d i) c ≡ true → (cs : List ℕ) (q : Play) → Way d (f c) (layout d i) (after_card d p c) cs q → ones q.unplayed ≡ 0 → target ≤ q.won)
            → First d (led a f) (layout d i) p cs q → ones q.unplayed ≡ 0 → target ≤ q.won
        by o m k none_yet z = absurd (omega arith)
        by {p = p} o m k (ours_first b e w) z = absurd (not_both (side d p) e m)
        by {q = q} o m k (theirs_first {cs} c b e j w) z = k c j cs q w z

    -- a Max position: the plan of one child, and the default after any other card
    plan_max : (p : Play) (s c : ℕ) → Good d p → 0 < ones p.unplayed → side d p ≡ Max → legal d p c ≡ true
        → OnePlan d target (after_card d p c) s → OnePlan d target p s
    plan_max p s c g o m l one = (
      led c (λ x. (pick x).0),
      (
        chooses_led p c (λ x. (pick x).0) (λ e. l) (λ x h. (pick x).1 h),
        λ i b e. makes_max p c i (λ x. (pick x).0) o m (λ a. legal_in_all p c i g m l a) ((pick c).2 refl i b e),
      ),
    )
      where
        choice : (x : ℕ) → (x ≡ c) ⊎ (x ≡ c → ⊥)
            → (f : Plan d) × (legal d p x ≡ true → Chooses d f (after_card d p x)) × (x ≡ c → (i : ℕ) → i < 6 → has s i ≡ true → Makes d target f (after_card d p x) i)
        choice x (inl e) = (
          one.0,
          (λ h. subst (λ (y : ℕ). Chooses d one.0 (after_card d p y)) (sym e) one.1.0),
          (λ k i b a. subst (λ (y : ℕ). Makes d target one.0 (after_card d p y) i) (sym e) (one.1.1 i b a)),
        )
        choice x (inr n) = (lowest d (after_card d p x), (λ h. lowest_chooses d v (after_card d p x) (good_after d p x v g h)), (λ e. absurd (n e)))

        pick : (x : ℕ) → (f : Plan d) × (legal d p x ≡ true → Chooses d f (after_card d p x)) × (x ≡ c → (i : ℕ) → i < 6 → has s i ≡ true → Makes d target f (after_card d p x) i)
        pick x = choice x (cases_eq x c)

    -- a Min position: a plan for each child, glued
    plan_min : (p : Play) (s : ℕ) → Good d p → 0 < ones p.unplayed → side d p ≡ Min
        → ((c : ℕ) → legal d p c ≡ true → OnePlan d target (after_card d p c) s) → OnePlan d target p s
    plan_min p s g o m ones_plan = (
      led 0 (λ x. (pick x).0),
      (
        chooses_led p 0 (λ x. (pick x).0) (λ e. absurd (not_both (side d p) e m)) (λ x h. ((pick x).1 h).0),
        λ i b e. makes_min p 0 i (λ x. (pick x).0) o m g (λ c h. ((pick c).1 h).1 i b e),
      ),
    )
      where
        choice : (x : ℕ) → (legal d p x ≡ true) ⊎ (legal d p x ≡ false)
            → (f : Plan d) × (legal d p x ≡ true → Chooses d f (after_card d p x) × ((i : ℕ) → i < 6 → has s i ≡ true → Makes d target f (after_card d p x) i))
        choice x (inl e) = ((ones_plan x e).0, λ h. (ones_plan x e).1)
        choice x (inr e) = (λ xs. 0, λ h. absurd (both_ways (legal d p x) e h))

        pick : (x : ℕ) → (f : Plan d) × (legal d p x ≡ true → Chooses d f (after_card d p x) × ((i : ℕ) → i < 6 → has s i ≡ true → Makes d target f (after_card d p x) i))
        pick x = choice x (cases_Bool (legal d p x))

    -- ---- the theorem, by the number of unplayed cards

    side_cases : (x : Side) → (x ≡ Max) ⊎ (x ≡ Min)
    side_cases Max = inl refl
    side_cases Min = inr refl

    module _ (s : ℕ) (small : s < 64) where
      abbrev HoldsAt : ℕ → Play → Type 0
      HoldsAt n p = has (value (tree d (plan_score target) n p)) s ≡ true

      open_max : (n : ℕ) (p : Play) → side d p ≡ Max
          → value (tree d (plan_score target) (suc n) p)
          ≡ joined_value (grown d (plan_score target) (λ c. tree d (plan_score target) n (after_card d p c)) (legal_cards d p))
      open_max n p e =
          ap (λ (y : Side). value (turn (card_key d p) (suc n) y (grown d (plan_score target) (λ c. tree d (plan_score target) n (after_card d p c)) (legal_cards d p)))) e

      open_min : (n : ℕ) (p : Play) → side d p ≡ Min
          → value (tree d (plan_score target) (suc n) p)
          ≡ met_value (grown d (plan_score target) (λ c. tree d (plan_score target) n (after_card d p c)) (legal_cards d p))
      open_min n p e =
          ap (λ (y : Side). value (turn (card_key d p) (suc n) y (grown d (plan_score target) (λ c. tree d (plan_score target) n (after_card d p c)) (legal_cards d p)))) e

      forth : (n : ℕ) (p : Play) → Good d p → ones p.unplayed ≡ n → HoldsAt n p → OnePlan d target p s
      forth zero p g z h =
          (lowest d p, (lowest_chooses d v p g, λ i b e a cs q w y. by i e a q (ended d w z) (score_means target p s (live_small d v p g) small h)))
        where
          by : (i : ℕ) → has s i ≡ true → has p.live i ≡ true → (q : Play) → q ≡ p
              → Scores target p s → target ≤ q.won
          by i e a q r (inl l) = subst (λ (x : Play). target ≤ x.won) (sym r) l
          by i e a q r (inr f) = absurd (both_ways (has p.live i) (f i e) a)
      forth (suc n) p g z h =
          by (λ c l w. forth n (after_card d p c) (good_after d p c v g l) (after_ones d p c n l z) w) (side_cases (side d p))
        where
          o : 0 < ones p.unplayed
          o = omega arith

          pick : ((c : ℕ) → legal d p c ≡ true → HoldsAt n (after_card d p c) → OnePlan d target (after_card d p c) s) → side d p ≡ Max
              → (s ≡ 0) ⊎ ((c : ℕ) × In c (legal_cards d p) × HoldsAt n (after_card d p c)) → OnePlan d target p s
          pick ih m (inl e) =
              (lowest d p, (lowest_chooses d v p g, λ i b a. absurd (both_ways (has 0 i) (has_zero i) (subst (λ (x : ℕ). has x i ≡ true) e a))))
          pick ih m (inr (c, i, w)) = let l = cards_legal d p c i in plan_max p s c g o m l (ih c l w)

          by : ((c : ℕ) → legal d p c ≡ true → HoldsAt n (after_card d p c) → OnePlan d target (after_card d p c) s)
              → (side d p ≡ Max) ⊎ (side d p ≡ Min) → OnePlan d target p s
          by ih (inl m) =
              pick ih m (joined_some d (plan_score target) (λ c. tree d (plan_score target) n (after_card d p c)) s (legal_cards d p)
              (subst (λ (x : ℕ). has x s ≡ true) (open_max n p m) h))
          by ih (inr m) =
              plan_min p s g o m (λ c l.
              ih c l (met_each d (plan_score target) (λ c. tree d (plan_score target) n (after_card d p c)) s (legal_cards d p) c
              (subst (λ (x : ℕ). has x s ≡ true) (open_min n p m) h) (legal_card d p c l (card_small d p c v g l))))

      back : (n : ℕ) (p : Play) → Good d p → ones p.unplayed ≡ n → OnePlan d target p s → HoldsAt n p
      back zero p g z (f, (h, k)) = means_score target p s (live_small d v p g) small (by (cases_lt p.won target))
        where
          by : (p.won < target) ⊎ (target ≤ p.won) → Scores target p s
          by (inl l) =
              inr (λ i e. test_false (has p.live i) (λ a. let m = k i (has_below 6 s i small e) e a [] p start z in omega arith))
          by (inr l) = inl l
      back (suc n) p g z one =
          by (λ c l w. back n (after_card d p c) (good_after d p c v g l) (after_ones d p c n l z) w) (side_cases (side d p))
        where
          o : 0 < ones p.unplayed
          o = omega arith

          by : ((c : ℕ) → legal d p c ≡ true → OnePlan d target (after_card d p c) s → HoldsAt n (after_card d p c))
              → (side d p ≡ Max) ⊎ (side d p ≡ Min) → HoldsAt (suc n) p
          by ih (inl m) =
              let (c, l, w) = max_plan p s g o m one in
              subst (λ (x : ℕ). has x s ≡ true) (sym (open_max n p m))
              (some_joined d (plan_score target) (λ c. tree d (plan_score target) n (after_card d p c)) s (legal_cards d p) c
              (legal_card d p c l (card_small d p c v g l)) (ih c l w))
          by ih (inr m) =
              subst (λ (x : ℕ). has x s ≡ true) (sym (open_min n p m))
              (each_met d (plan_score target) (λ c. tree d (plan_score target) n (after_card d p c)) s (legal_cards d p) small
              (λ c i. let l = cards_legal d p c i in ih c l (min_plan p s c o m one l)))

-- both directions, for the number of unplayed cards that the position has
pub plan_theorem : PlanTheorem
plan_theorem d v target p r s l = (
  forth d v target s l (ones p.unplayed) p (good_reached d v p r) refl,
  back d v target s l (ones p.unplayed) p (good_reached d v p r) refl,
)
