-- The laws of a game, for card play from a valid deal, whatever is scored.
use Rattle.std.proofs.Common.{◌≡◌, ℕ, zero, suc, ◌+◌, ◌-◌, ◌*◌, ◌/◌, ◌%◌, ◌^◌, ◌<◌, ◌≤◌, true, List, [], ◌∷◌, ◌++◌, map, length, get_or, sym, refl, ap, ◌∙◌, subst, inl, inr, suc-le-suc, zero-le, arith}
use lib.Arith.{digits_div, digits_mod}
use lib.Count.{ones, ones-le}
use Rattle.games.specs.declared.side.Side.{Side}
use Rattle.games.specs.declared.key.Key.{Key}
use Rattle.games.specs.Trees.{Tree, over, turn, Forest, key_of, height_of, children_of, count, place_or, child, last_of, loaded, Within, here, below, Linked, Lawful}
use Rattle.cardplay.specs.Cards.{Dealt, Play, legal, after_card, legal_cards, card_key, grown, tree, position}
use Rattle.cardplay.specs.Plans.{Reaches, start, next}
use Rattle.cardplay.specs.Deals.{ValidDeal, first_play, Reached, Played, card_line}
use Rattle.cardplay.proofs.Legal.{In, cards_legal, legal_card, cards_few}
use Rattle.cardplay.proofs.Reach.{Good, good_first, good_after, some_card, card_small, after_ones, legal_open, live_small}

-- ---- a key tells the state

same_list : (t u : List ℕ) → length t ≡ length u → ((j : ℕ) → j < length t → get_or t j 0 ≡ get_or u j 0) → t ≡ u
same_list [] [] e f = refl
same_list [] (y ∷ u) e f = absurd (omega arith)
same_list (x ∷ t) [] e f = absurd (omega arith)
same_list (x ∷ t) (y ∷ u) e f =
    let r = same_list t u (omega arith) (λ j l. f (suc j) (suc-le-suc l)) in
    λ i. f 0 (suc-le-suc zero-le) i ∷ r i

-- a number has one high part and one low part
digits_same : (m a b x y : ℕ) → a < m → b < m → x * m + a ≡ y * m + b → (x ≡ y) × (a ≡ b)
digits_same m a b x y ha hb e = (
  sym (digits_div x ha) ∙ ap (λ (n : ℕ). n / m) e ∙ digits_div y hb,
  sym (digits_mod x ha) ∙ ap (λ (n : ℕ). n % m) e ∙ digits_mod y hb,
)

module _ (d : Dealt) (v : ValidDeal d) where
  -- both words of a key have 64 bits
  pub key_small : (p : Play) → Good d p → ((card_key d p).first < 2 ^ 64) × ((card_key d p).second < 2 ^ 64)
  key_small p g =
      let l = live_small d v p g in
      let u = g.small in let a = g.leads in let w = g.total in let t = g.short in
      let x = g.low 0 in let y = g.low 1 in let z = g.low 2 in
      (omega arith, omega arith)

  pub key_tells : (p q : Play) → Good d p → Good d q → card_key d p ≡ card_key d q → p ≡ q
  key_tells p q g h e =
      let lp = live_small d v p g in let lq = live_small d v q h in
      let a = ap (λ (k : Key). k.first) e in
      let b = ap (λ (k : Key). k.second) e in
      let up = g.small in let uq = h.small in
      let sp = g.leads in let sq = h.leads in
      let wp = g.total in let wq = h.total in
      let k1 = digits_same (2 ^ 58) (p.unplayed + p.leader * 2 ^ 52 + p.won * 2 ^ 54) (q.unplayed + q.leader * 2 ^ 52 + q.won * 2 ^ 54) p.live q.live
      (omega arith) (omega arith) (omega arith) in
      let k2 = digits_same (2 ^ 54) (p.unplayed + p.leader * 2 ^ 52) (q.unplayed + q.leader * 2 ^ 52) p.won q.won
      (omega arith) (omega arith) (let k = k1.1 in omega arith) in
      let k3 = digits_same (2 ^ 52) p.unplayed q.unplayed p.leader q.leader up uq (let k = k2.1 in omega arith) in
      let eu : p.unplayed ≡ q.unplayed = k3.1 in
      let es : p.leader ≡ q.leader = k3.0 in
      let ew : p.won ≡ q.won = k2.0 in
      let el : p.live ≡ q.live = k1.0 in
      let et : p.trick ≡ q.trick = same_trick p.trick q.trick g.short h.short g.low h.low b in
      λ i. record { unplayed = eu i; leader = es i; trick = et i; won = ew i; live = el i }
    where
      same_trick : (t u : List ℕ) → length t < 4 → length u < 4 → ((j : ℕ) → get_or t j 0 < 64) → ((j : ℕ) → get_or u j 0 < 64)
          → length t + 4 * get_or t 0 0 + 256 * get_or t 1 0 + 16384 * get_or t 2 0 ≡ length u + 4 * get_or u 0 0 + 256 * get_or u 1 0 + 16384 * get_or u 2 0 → t ≡ u
      same_trick t u lt lu ft fu e =
          let a = ft 0 in let b = ft 1 in let c = ft 2 in
          let x = fu 0 in let y = fu 1 in let z = fu 2 in
          let k1 = digits_same 16384 (length t + 4 * get_or t 0 0 + 256 * get_or t 1 0) (length u + 4 * get_or u 0 0 + 256 * get_or u 1 0) (get_or t 2 0) (get_or u 2 0)
          (omega arith) (omega arith) (omega arith) in
          let k2 = digits_same 256 (length t + 4 * get_or t 0 0) (length u + 4 * get_or u 0 0) (get_or t 1 0) (get_or u 1 0)
          (omega arith) (omega arith) (let k = k1.1 in omega arith) in
          let k3 = digits_same 4 (length t) (length u) (get_or t 0 0) (get_or u 0 0) lt lu (let k = k2.1 in omega arith) in
          same_list t u k3.1 (at lt k3.0 k2.0 k1.0)
        where
          at : length t < 4 → get_or t 0 0 ≡ get_or u 0 0 → get_or t 1 0 ≡ get_or u 1 0 → get_or t 2 0 ≡ get_or u 2 0
              → (j : ℕ) → j < length t → get_or t j 0 ≡ get_or u j 0
          at l a b c zero m = a
          at l a b c (suc zero) m = b
          at l a b c (suc (suc zero)) m = c
          at l a b c (suc (suc (suc j))) m = absurd (omega arith)

-- ---- the children of a position

module _ {S : Type 0} (d : Dealt) (score : Play → S) where
  grown_count : (f : ℕ → Tree S) (cs : List ℕ) → count (grown d score f cs) ≡ length cs
  grown_count f [] = refl
  grown_count f (c ∷ cs) = ap suc (grown_count f cs)

  -- at each place stands the tree of a card of the list, and each card of the list has a place
  place_card : (f : ℕ → Tree S) (u : Tree S) (cs : List ℕ) (n : ℕ) → n < count (grown d score f cs)
      → (c : ℕ) × In c cs × (place_or u (grown d score f cs) n ≡ f c)
  place_card f u [] n l = absurd (omega arith)
  place_card f u (c ∷ cs) zero l = (c, inl refl, refl)
  place_card f u (c ∷ cs) (suc n) l = let r = place_card f u cs n (omega arith) in (r.0, inr r.1, r.2)

  card_place : (f : ℕ → Tree S) (u : Tree S) (cs : List ℕ) (c : ℕ) → In c cs
      → (n : ℕ) × (n < count (grown d score f cs)) × (place_or u (grown d score f cs) n ≡ f c)
  card_place f u [] c i = absurd i
  card_place f u (x ∷ cs) c (inl e) = (0, suc-le-suc zero-le, ap f (sym e))
  card_place f u (x ∷ cs) c (inr i) = let r = card_place f u cs c i in (suc r.0, suc-le-suc r.1, r.2)

  tree_key : (n : ℕ) (p : Play) → key_of (tree d score n p) ≡ card_key d p
  tree_key zero p = refl
  tree_key (suc n) p = refl

  tree_height : (n : ℕ) (p : Play) → height_of (tree d score n p) ≡ n
  tree_height zero p = refl
  tree_height (suc n) p = refl

  tree_few : (n : ℕ) (p : Play) → count (children_of (tree d score n p)) ≤ 64
  tree_few zero p = zero-le
  tree_few (suc n) p =
      let e = grown_count (λ c. tree d score n (after_card d p c)) (legal_cards d p) in
      let l = cards_few d p in
      omega arith

  module _ (v : ValidDeal d) where
    -- the child of a position at a place is the position after a legal card
    tree_child : (n : ℕ) (p : Play) → Good d p → ones p.unplayed ≡ n → (k : ℕ) → k < count (children_of (tree d score n p))
        → (m : ℕ) × (q : Play) × (n ≡ suc m) × Good d q × (ones q.unplayed ≡ m) × (child (tree d score n p) k ≡ tree d score m q)
    tree_child zero p g e k l = absurd (omega arith)
    tree_child (suc n) p g e k l =
        let r = place_card (λ c. tree d score n (after_card d p c)) (tree d score (suc n) p) (legal_cards d p) k l in
        let c = r.0 in
        let h = cards_legal d p c r.1 in
        (n, after_card d p c, refl, good_after d p c v g h, after_ones d p c n h e, r.2)

    -- every tree within a position's is a position's
    inside : {t u : Tree S} → Within t u → (n : ℕ) (p : Play) → Good d p → ones p.unplayed ≡ n → u ≡ tree d score n p
        → (q : Play) × Good d q × (t ≡ position d score q)
    inside here n p g e r = (p, g, r ∙ ap (λ (x : ℕ). tree d score x p) (sym e))
    inside (below {u} k l w) n p g e r =
        let z = tree_child n p g e k (subst (λ (x : Tree S). k < count (children_of x)) r l) in
        inside w z.0 z.1 z.3 z.4 (ap (λ (x : Tree S). child x k) r ∙ z.5)

    position_some : (n : ℕ) (p : Play) → Good d p → ones p.unplayed ≡ n → (k : Key) (h : ℕ) (x : Side) (ts : Forest S)
        → turn k h x ts ≡ tree d score n p → 1 ≤ count ts
    position_some zero p g e k h x ts r = let z : ◌≡◌ {A = ℕ} 0 1 = ap kind (sym r) in absurd (omega arith)
      where
        kind : Tree S → ℕ
        kind (over a b c) = 0
        kind (turn a b c f) = 1
    position_some (suc n) p g e k h x ts r =
        let s = some_card d p g (omega arith) in
        let i = legal_card d p s.0 s.1 (card_small d p s.0 v g s.1) in
        let j = card_place (λ c. tree d score n (after_card d p c)) (tree d score (suc n) p) (legal_cards d p) s.0 i in
        let l = j.1 in
        let q = ap (λ (y : Tree S). count (children_of y)) r in
        omega arith

    -- ---- the line

    good_played : (p : Play) (qs : List Play) → Played d p qs → Good d p
    good_played p [] e = subst (Good d) (sym e) (good_first d v)
    good_played p (q ∷ qs) ((c, h, e), r) = subst (Good d) (sym e) (good_after d q c v (good_played q qs r) h)

    loaded_first : (p : Play) (qs : List Play) → Played d p qs
        → last_of (position d score p) (map (position d score) qs) ≡ position d score (first_play d)
    loaded_first p [] e = ap (position d score) e
    loaded_first p (q ∷ qs) (x, r) = loaded_first q qs r

    linked_one : (n : ℕ) (q : Play) (c : ℕ) → Good d q → ones q.unplayed ≡ suc n → legal d q c ≡ true
        → (k : ℕ) × (k < count (children_of (tree d score (suc n) q))) × (child (tree d score (suc n) q) k ≡ position d score (after_card d q c))
    linked_one n q c g e h =
        let j = card_place (λ x. tree d score n (after_card d q x)) (tree d score (suc n) q) (legal_cards d q) c
        (legal_card d q c h (card_small d q c v g h)) in
        (j.0, j.1, j.2 ∙ ap (λ (x : ℕ). tree d score x (after_card d q c)) (sym (after_ones d q c n h e)))

    linked_open : (q : Play) (c : ℕ) → Good d q → legal d q c ≡ true
        → (k : ℕ) × (k < count (children_of (position d score q))) × (child (position d score q) k ≡ position d score (after_card d q c))
    linked_open q c g h =
        let o = legal_open d q c h in
        let e : ones q.unplayed ≡ suc (ones q.unplayed - 1) = omega arith in
        subst (λ (x : ℕ). (k : ℕ) × (k < count (children_of (tree d score x q))) × (child (tree d score x q) k ≡ position d score (after_card d q c)))
        (sym e) (linked_one (ones q.unplayed - 1) q c g e h)

    all_linked : (p : Play) (qs : List Play) → Played d p qs → Linked (position d score p) (map (position d score) qs)
    all_linked p [] e = tt
    all_linked p (q ∷ qs) ((c, h, e), r) =
        let j = linked_open q c (good_played q qs r) h in
        ((j.0, j.1, j.2 ∙ ap (position d score) (sym e)), all_linked q qs r)

    -- every tree within the loaded one is the tree of a good state
    found : (p : Play) (qs : List Play) → Played d p qs → (t : Tree S) → Within t (loaded (card_line d score p qs))
        → (q : Play) × Good d q × (t ≡ position d score q)
    found p qs r t w = inside w (ones (first_play d).unplayed) (first_play d) (good_first d v) refl (loaded_first p qs r)

    falling : (n : ℕ) (p : Play) → Good d p → ones p.unplayed ≡ n → (k : ℕ) → k < count (children_of (tree d score n p))
        → height_of (child (tree d score n p) k) < height_of (tree d score n p)
    falling n p g e k l =
        let z = tree_child n p g e k l in
        let a = tree_height n p in
        let b = ap height_of z.5 ∙ tree_height z.0 z.1 in
        let c = z.2 in
        omega arith

    lawful : (p : Play) (qs : List Play) → Played d p qs → Lawful (card_line d score p qs)
    lawful p qs r =
        record {
          linked = all_linked p qs r;
          few = λ t w. let z = found p qs r t w in
              subst (λ (x : Tree S). count (children_of x) ≤ 64) (sym z.2) (tree_few (ones z.0.unplayed) z.0);
          some = λ k h x ts w. let z = found p qs r (turn k h x ts) w in
              position_some (ones z.0.unplayed) z.0 z.1 refl k h x ts z.2;
          falls = λ t n w l. let z = found p qs r t w in
              subst (λ (x : Tree S). height_of (child x n) < height_of x) (sym z.2)
              (falling (ones z.0.unplayed) z.0 z.1 refl n (subst (λ (x : Tree S). n < count (children_of x)) z.2 l));
          low =
              let e = ap height_of (loaded_first p qs r) ∙ tree_height (ones (first_play d).unplayed) (first_play d) in
              let l = ones-le 52 (first_play d).unplayed (good_first d v).small in
              omega arith;
          keyed = λ t u a b e.
              let y = found p qs r t a in
              let z = found p qs r u b in
              let k = sym (tree_key (ones y.0.unplayed) y.0) ∙ ap key_of (sym y.2) ∙ e ∙ ap key_of z.2 ∙ tree_key (ones z.0.unplayed) z.0 in
              y.2 ∙ ap (position d score) (key_tells d v y.0 z.0 y.1 z.1 k) ∙ sym z.2;
        }

-- from a valid deal every line of play is lawful, whatever is scored
pub card_lawful : {S : Type 0} {d : Dealt} → ValidDeal d → (score : Play → S) (p : Play) (qs : List Play) → Played d p qs
    → Lawful (card_line d score p qs)
card_lawful {d = d} v score = lawful d score v

-- ---- where a game may stand, and what legal cards reach, are the same states

pub played_reached : (d : Dealt) (p : Play) (qs : List Play) → Played d p qs → Reached d p
played_reached d p [] e = ([], subst (λ (x : Play). Reaches d (first_play d) [] x) (sym e) start)
played_reached d p (q ∷ qs) ((c, h, e), r) =
    let (cs, w) = played_reached d q qs r in
    (cs ++ (c ∷ []), subst (λ (x : Play). Reaches d (first_play d) (cs ++ (c ∷ [])) x) (sym e) (next c w h))

pub reached_played : (d : Dealt) {cs : List ℕ} {p : Play} → Reaches d (first_play d) cs p → (qs : List Play) × Played d p qs
reached_played d start = ([], refl)
reached_played d (next {q = q} c r h) = let (qs, w) = reached_played d r in (q ∷ qs, ((c, h, refl), w))

-- the tricks won are a score of the trick game
pub won_few : (d : Dealt) (p : Play) → Good d p → p.won ≤ 13
won_few d p g = let t = g.total in omega arith
