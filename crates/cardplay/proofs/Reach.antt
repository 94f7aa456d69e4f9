-- What holds of every position that legal cards lead to.
use Rattle.std.proofs.Common.{◌≡◌, ℕ, zero, suc, ◌+◌, ◌-◌, ◌*◌, ◌%◌, ◌^◌, ◌<◌, ◌≤◌, true, ◌&&◌, eqb, ◌⊎◌, List, [], ◌∷◌, ◌++◌, length, get_or, sym, refl, ap, ◌∙◌, subst, inl, inr, mod-lt, arith, lit<, length-append}
use lib.Bits.{bit_and, bit_or, or_lt}
use lib.Count.{ones}
use Rattle.std.proofs.lemmas.Bool.{both_ways, eqb-true, eqb-false, cases_lt, cases_eq, and_parts, cond_both}
use Rattle.bitsets.specs.Sets.{has}
use Rattle.cardplay.specs.Cards.{Layout, hand, Dealt, Play, to_play, follows, held, legal, live_after, winner, closes, goes_on, after_card}
use Rattle.cardplay.specs.Plans.{Reaches, start, next}
use Rattle.cardplay.specs.Deals.{layout, ValidDeal, cards_of, first_play, Reached}
use Rattle.bitsets.proofs.Digits.{has_all, all_has, has_below, and_has_l, and_has_r, and_has, or_has, or_has_l, or_has_r, apart, apart_out, and_sub_in, and_sub_out, ones_sub, ones_or, ones_pos, ones_zero, part_and, part_le}
use Rattle.cardplay.proofs.Legal.{LegalIn, legal_where, where_legal, live_where, where_live, some_follows}

-- how many seats after the leader a seat sits
abbrev pub offset : ℕ → ℕ → ℕ
offset leader k = (k + 4 - leader) % 4

-- how many cards seat k has left in a layout
abbrev pub left : Play → Layout → ℕ → ℕ
left p l k = ones (bit_and (hand l k) p.unplayed)

-- the invariant: `rest` is the number of cards left to a seat that has not played to the trick
pub record Good (d : Dealt) (p : Play) : Type 0 where
  pub short : length p.trick < 4
  pub leads : p.leader < 4
  pub small : p.unplayed < 2 ^ 52
  pub low : (j : ℕ) → get_or p.trick j 0 < 64
  pub rest : ℕ
  pub counted : ones p.unplayed + length p.trick ≡ 4 * rest
  pub total : p.won + rest ≤ 13
  pub listed : (i : ℕ) → has p.live i ≡ true → i < length d.layouts
  pub alive : (i : ℕ) × (has p.live i ≡ true)
  pub waiting : (i k : ℕ) → has p.live i ≡ true → k < 4 → length p.trick ≤ offset p.leader k → left p (layout d i) k ≡ rest
  pub played : (i k : ℕ) → has p.live i ≡ true → k < 4 → offset p.leader k < length p.trick → suc (left p (layout d i) k) ≡ rest

-- ---- seats

seat_of : (l t k : ℕ) → l < 4 → t < 4 → k < 4 → (k + 4 - l) % 4 ≡ t → k ≡ (l + t) % 4
seat_of l t k hl ht hk e = omega arith

of_seat : (l t k : ℕ) → l < 4 → t < 4 → k ≡ (l + t) % 4 → (k + 4 - l) % 4 ≡ t
of_seat l t k hl ht e = omega arith

-- ---- a card goes

module _ (d : Dealt) (p : Play) (c : ℕ) where
  -- a legal card is in the hand and unplayed
  pub in_hand : (i : ℕ) → LegalIn d p c i → has (hand (layout d i) (to_play d p)) c ≡ true
  in_hand i h =
      and_has_l (hand (layout d i) (to_play d p)) p.unplayed c
      (and_parts (has (held d p (layout d i)) c) (follows (held d p (layout d i)) p.trick c) h.there).0

  in_unplayed : (i : ℕ) → LegalIn d p c i → has p.unplayed c ≡ true
  in_unplayed i h =
      and_has_r (hand (layout d i) (to_play d p)) p.unplayed c
      (and_parts (has (held d p (layout d i)) c) (follows (held d p (layout d i)) p.trick c) h.there).0

  pub legal_unplayed : legal d p c ≡ true → has p.unplayed c ≡ true
  legal_unplayed h = let w = legal_where d p c h in in_unplayed w.0 w.1

  pub one_less : legal d p c ≡ true → suc (ones (p.unplayed - 2 ^ c)) ≡ ones p.unplayed
  one_less h = ones_sub p.unplayed c (legal_unplayed h)

  pub after_unplayed : (after_card d p c).unplayed ≡ p.unplayed - 2 ^ c
  after_unplayed =
      cond_both (eqb (length p.trick) 3) (closes d p c) (goes_on d p c) (λ (q : Play). q.unplayed ≡ p.unplayed - 2 ^ c) (λ e. refl) (λ e. refl)

  pub after_live : (after_card d p c).live ≡ live_after d p c
  after_live =
      cond_both (eqb (length p.trick) 3) (closes d p c) (goes_on d p c) (λ (q : Play). q.live ≡ live_after d p c) (λ e. refl) (λ e. refl)

  pub after_ones : (n : ℕ) → legal d p c ≡ true → ones p.unplayed ≡ suc n → ones (after_card d p c).unplayed ≡ n
  after_ones n h e = let o = one_less h in let u = ap ones after_unplayed in omega arith

  pub legal_open : legal d p c ≡ true → 0 < ones p.unplayed
  legal_open h = ones_pos p.unplayed c (legal_unplayed h)

  module _ (v : ValidDeal d) (g : Good d p) (h : legal d p c ≡ true) where
    after_small : p.unplayed - 2 ^ c < 2 ^ 52
    after_small = let s = g.small in omega arith

    pub card_small : c < 52
    card_small = has_below 52 p.unplayed c g.small (legal_unplayed h)

    seat_small : to_play d p < 4
    seat_small = mod-lt (p.leader + length p.trick) (lit< tt)

    -- of the seat that played it, one card less, and of another as many as before
    mine : (i : ℕ) → LegalIn d p c i
        → suc (ones (bit_and (hand (layout d i) (to_play d p)) (p.unplayed - 2 ^ c))) ≡ ones (bit_and (hand (layout d i) (to_play d p)) p.unplayed)
    mine i w =
        let a = hand (layout d i) (to_play d p) in
        ap (λ (x : ℕ). suc (ones x)) (and_sub_in a p.unplayed c (in_hand i w) (in_unplayed i w))
        ∙ ones_sub (bit_and a p.unplayed) c (and_has a p.unplayed c (in_hand i w) (in_unplayed i w))

    other : (i k : ℕ) → LegalIn d p c i → k < 4 → (k ≡ to_play d p → ⊥)
        → ones (bit_and (hand (layout d i) k) (p.unplayed - 2 ^ c)) ≡ ones (bit_and (hand (layout d i) k) p.unplayed)
    other i k w l n =
        ap ones (and_sub_out (hand (layout d i) k) p.unplayed c
        (apart_out (hand (layout d i) (to_play d p)) (hand (layout d i) k) c
        (v.disjoint i (to_play d p) k w.listed seat_small l (λ e. n (sym e))) (in_hand i w))
        (in_unplayed i w))

    -- what a seat has left after the card, by whether it has played
    gone : (i k : ℕ) → LegalIn d p c i → k < 4 → offset p.leader k < suc (length p.trick)
        → suc (ones (bit_and (hand (layout d i) k) (p.unplayed - 2 ^ c))) ≡ g.rest
    gone i k w l o = by (cases_eq k (to_play d p))
      where
        by : (k ≡ to_play d p) ⊎ (k ≡ to_play d p → ⊥) → suc (ones (bit_and (hand (layout d i) k) (p.unplayed - 2 ^ c))) ≡ g.rest
        by (inl e) =
            let f = of_seat p.leader (length p.trick) k g.leads g.short e in
            subst (λ (x : ℕ). suc (ones (bit_and (hand (layout d i) x) (p.unplayed - 2 ^ c))) ≡ ones (bit_and (hand (layout d i) x) p.unplayed)) (sym e) (mine i w)
            ∙ g.waiting i k w.alive l (omega arith)
        by (inr n) =
            let m : offset p.leader k ≡ length p.trick → ⊥ =
            λ f. n (seat_of p.leader (length p.trick) k g.leads g.short l f) in
            ap suc (other i k w l n) ∙ g.played i k w.alive l (omega arith)

    kept : (i k : ℕ) → LegalIn d p c i → k < 4 → suc (length p.trick) ≤ offset p.leader k
        → ones (bit_and (hand (layout d i) k) (p.unplayed - 2 ^ c)) ≡ g.rest
    kept i k w l o =
        let n : k ≡ to_play d p → ⊥ =
        λ e. let f = of_seat p.leader (length p.trick) k g.leads g.short e in omega arith in
        other i k w l n ∙ g.waiting i k w.alive l (omega arith)

    rest_some : 1 ≤ g.rest
    rest_some = let o = legal_open h in let e = g.counted in omega arith

    after_alive : (i : ℕ) × (has (live_after d p c) i ≡ true)
    after_alive = let w = legal_where d p c h in (w.0, where_live d p c w.0 w.1)

    good_closes : length p.trick ≡ 3 → Good d (closes d p c)
    good_closes e =
        let s = rest_some in
        record {
          short = lit< tt;
          leads = mod-lt (p.leader + winner d (p.trick ++ (c ∷ []))) (lit< tt);
          small = after_small;
          low = λ j. lit< tt;
          rest = g.rest - 1;
          counted = let o = one_less h in let f = g.counted in omega arith;
          total = let t = g.total in omega arith;
          listed = λ i a. (live_where d p c i a).listed;
          alive = after_alive;
          waiting = λ i k a l o.
              let q = gone i k (live_where d p c i a) l (let m = mod-lt (k + 4 - p.leader) {m = 4} (lit< tt) in omega arith) in omega arith;
          played = λ i k a l o. absurd (omega arith);
        }

    longer : (t : List ℕ) (j : ℕ) → ((j : ℕ) → get_or t j 0 < 64) → get_or (t ++ (c ∷ [])) j 0 < 64
    longer [] zero f = let l = card_small in omega arith
    longer [] (suc j) f = lit< tt
    longer (x ∷ t) zero f = f 0
    longer (x ∷ t) (suc j) f = longer t j (λ m. f (suc m))

    good_goes_on : (length p.trick ≡ 3 → ⊥) → Good d (goes_on d p c)
    good_goes_on n =
        let e = length-append p.trick (c ∷ []) in
        let s = g.short in
        record {
          short = omega arith;
          leads = g.leads;
          small = after_small;
          low = λ j. longer p.trick j g.low;
          rest = g.rest;
          counted = let o = one_less h in let f = g.counted in omega arith;
          total = g.total;
          listed = λ i a. (live_where d p c i a).listed;
          alive = after_alive;
          waiting = λ i k a l o. kept i k (live_where d p c i a) l (omega arith);
          played = λ i k a l o. gone i k (live_where d p c i a) l (omega arith);
        }

    pub good_after : Good d (after_card d p c)
    good_after =
        cond_both (eqb (length p.trick) 3) (closes d p c) (goes_on d p c) (Good d)
        (λ e. good_closes (eqb-true (length p.trick) 3 e)) (λ e. good_goes_on (eqb-false (length p.trick) 3 e))

-- ---- the first position

module _ (d : Dealt) (v : ValidDeal d) where
  first_listed : 0 < length d.layouts
  first_listed = v.some

  pub first_ones : ones (cards_of (layout d 0)) ≡ 4 * v.each
  first_ones =
      let l = layout d 0 in
      let a0 = v.sized 0 0 first_listed (lit< tt) in
      let a1 = v.sized 0 1 first_listed (lit< tt) in
      let a2 = v.sized 0 2 first_listed (lit< tt) in
      let a3 = v.sized 0 3 first_listed (lit< tt) in
      let e02 = ones_or (hand l 0) (hand l 2) (v.disjoint 0 0 2 first_listed (lit< tt) (lit< tt) (omega arith)) in
      let e13 = ones_or (hand l 1) (hand l 3) (v.disjoint 0 1 3 first_listed (lit< tt) (lit< tt) (omega arith)) in
      let e = ones_or (bit_or (hand l 0) (hand l 2)) (bit_or (hand l 1) (hand l 3)) (apart (bit_or (hand l 0) (hand l 2)) (bit_or (hand l 1) (hand l 3)) cross) in
      omega arith
    where
      out : (j k : ℕ) → j < 4 → k < 4 → (j ≡ k → ⊥) → (c : ℕ) → has (hand (layout d 0) j) c ≡ true → has (hand (layout d 0) k) c ≡ true → ⊥
      out j k lj lk n c p q =
          both_ways (has (hand (layout d 0) k) c) (apart_out (hand (layout d 0) j) (hand (layout d 0) k) c (v.disjoint 0 j k first_listed lj lk n) p) q

      pick : (c : ℕ) → (has (hand (layout d 0) 0) c ≡ true) ⊎ (has (hand (layout d 0) 2) c ≡ true)
          → (has (hand (layout d 0) 1) c ≡ true) ⊎ (has (hand (layout d 0) 3) c ≡ true) → ⊥
      pick c (inl p) (inl q) = out 0 1 (lit< tt) (lit< tt) (omega arith) c p q
      pick c (inl p) (inr q) = out 0 3 (lit< tt) (lit< tt) (omega arith) c p q
      pick c (inr p) (inl q) = out 2 1 (lit< tt) (lit< tt) (omega arith) c p q
      pick c (inr p) (inr q) = out 2 3 (lit< tt) (lit< tt) (omega arith) c p q

      cross : (c : ℕ) → has (bit_or (hand (layout d 0) 0) (hand (layout d 0) 2)) c ≡ true → has (bit_or (hand (layout d 0) 1) (hand (layout d 0) 3)) c ≡ true → ⊥
      cross c p q = pick c (or_has (hand (layout d 0) 0) (hand (layout d 0) 2) c p) (or_has (hand (layout d 0) 1) (hand (layout d 0) 3) c q)

  -- in every layout each hand is of the cards dealt
  dealt : (i k c : ℕ) → i < length d.layouts → k < 4 → has (hand (layout d i) k) c ≡ true → has (cards_of (layout d 0)) c ≡ true
  dealt i zero c l m e =
      let z = layout d 0 in
      or_has_l (bit_or (hand z 0) (hand z 2)) (bit_or (hand z 1) (hand z 3)) c
      (or_has_l (hand z 0) (hand z 2) c (subst (λ (x : ℕ). has x c ≡ true) (v.same_0 i l) e))
  dealt i (suc zero) c l m e =
      let z = layout d 0 in
      or_has_r (bit_or (hand z 0) (hand z 2)) (bit_or (hand z 1) (hand z 3)) c
      (subst (λ (x : ℕ). has x c ≡ true) (v.same_1_3 i l) (or_has_l (hand (layout d i) 1) (hand (layout d i) 3) c e))
  dealt i (suc (suc zero)) c l m e =
      let z = layout d 0 in
      or_has_l (bit_or (hand z 0) (hand z 2)) (bit_or (hand z 1) (hand z 3)) c
      (or_has_r (hand z 0) (hand z 2) c (subst (λ (x : ℕ). has x c ≡ true) (v.same_2 i l) e))
  dealt i (suc (suc (suc zero))) c l m e =
      let z = layout d 0 in
      or_has_r (bit_or (hand z 0) (hand z 2)) (bit_or (hand z 1) (hand z 3)) c
      (subst (λ (x : ℕ). has x c ≡ true) (v.same_1_3 i l) (or_has_r (hand (layout d i) 1) (hand (layout d i) 3) c e))
  dealt i (suc (suc (suc (suc k)))) c l m e = absurd (omega arith)

  first_left : (i k : ℕ) → i < length d.layouts → k < 4 → ones (bit_and (hand (layout d i) k) (cards_of (layout d 0))) ≡ v.each
  first_left i k l m =
      ap ones (part_and (hand (layout d i) k) (cards_of (layout d 0)) (λ c e. dealt i k c l m e)) ∙ v.sized i k l m

  pub good_first : Good d (first_play d)
  good_first =
      let z = layout d 0 in
      record {
        short = lit< tt;
        leads = v.leads;
        small =
            or_lt 52 (bit_or (hand z 0) (hand z 2)) (bit_or (hand z 1) (hand z 3))
            (or_lt 52 (hand z 0) (hand z 2) (v.small 0 0 first_listed (lit< tt)) (v.small 0 2 first_listed (lit< tt)))
            (or_lt 52 (hand z 1) (hand z 3) (v.small 0 1 first_listed (lit< tt)) (v.small 0 3 first_listed (lit< tt)));
        low = λ j. lit< tt;
        rest = v.each;
        counted = let e = first_ones in omega arith;
        total = let f = v.each_few in omega arith;
        listed = λ i a. all_has (length d.layouts) i a;
        alive = (0, has_all (length d.layouts) 0 first_listed);
        waiting = λ i k a l o. first_left i k (all_has (length d.layouts) i a) l;
        played = λ i k a l o. absurd (omega arith);
      }

  pub good_reaches : {p : Play} {cs : List ℕ} {q : Play} → Good d p → Reaches d p cs q → Good d q
  good_reaches g start = g
  good_reaches g (next {q = q} c r e) = good_after d q c v (good_reaches g r) e

  pub good_reached : (p : Play) → Reached d p → Good d p
  good_reached p r = good_reaches good_first r.1

-- the live set has six bits
pub live_small : (d : Dealt) → ValidDeal d → (p : Play) → Good d p → p.live < 64
live_small d v p g =
    let l = part_le p.live 63 (λ i a. let b = g.listed i a in let f = v.few in has_all 6 i (omega arith)) in
    omega arith

-- ---- an open position has a legal card

pub some_card : (d : Dealt) (p : Play) → Good d p → 0 < ones p.unplayed → (c : ℕ) × (legal d p c ≡ true)
some_card d p g o = (s.0, where_legal d p s.0 g.alive.0 (record { listed = g.listed g.alive.0 g.alive.1; alive = g.alive.1; there = s.1 }))
  where
    l : Layout
    l = layout d g.alive.0

    full : 0 < held d p l
    full =
        let e = g.waiting g.alive.0 (to_play d p) g.alive.1 (mod-lt (p.leader + length p.trick) (lit< tt))
        (let f = of_seat p.leader (length p.trick) (to_play d p) g.leads g.short refl in omega arith) in
        let k = g.counted in
        by (cases_lt 0 (held d p l)) e
      where
        by : (0 < held d p l) ⊎ (held d p l ≤ 0) → ones (held d p l) ≡ g.rest → 0 < held d p l
        by (inl q) e = q
        by (inr q) e =
            let z : held d p l ≡ 0 = omega arith in
            let f : ones (held d p l) ≡ ones 0 = ap ones z in
            let n = ones_zero in let k = g.counted in
            absurd (omega arith)

    s : (c : ℕ) × (has (held d p l) c && follows (held d p l) p.trick c ≡ true)
    s = some_follows (held d p l) p.trick full
