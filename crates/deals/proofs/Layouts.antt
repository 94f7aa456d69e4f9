-- The layouts of a deal, one after the other.
use Rattle.std.proofs.Common.{◌≡◌, ℕ, zero, suc, ◌+◌, ◌^◌, ◌<◌, ◌≤◌, Bool, true, false, cond, ◌&&◌, ◌||◌, eqb, ltb, List, [], ◌∷◌, map, length, get_or, take, drop, Some, None, Option, sym, refl, ap, ◌∙◌, add-zero, pow-suc, add-one, arith, drop_of_length-le, length-take, bit_and, bit_or}
use Rattle.std.specs.Int.Bits.{and_zero_l, or_zero_r}
use Rattle.std.specs.Option.{option_map, unwrap_or}
use Rattle.std.proofs.lemmas.List.{length-map}
use Rattle.std.proofs.lemmas.Bool.{cond-true, cond-false, and_right}
use Rattle.std.proofs.lemmas.Bool.Decides.{nat_tests}
use Rattle.bitsets.specs.Sets.{has}
use Rattle.bitsets.proofs.Digits.{has_or, has_pow, has_zero, has_ext, or_assoc, has_high, or_pow_new}
use Rattle.cards.specs.declared.set.CardSet.{CardSet}
use Rattle.cards.specs.Numbers.{bits_of}
use Rattle.lines.specs.declared.problem.Problem.{Problem}
use Rattle.lines.specs.Deals.{Defence, Deal, seat_hand, hand_among}
use Rattle.lines.specs.Problems.{defence}
use Rattle.lines.specs.Told.{deal_of}
use Rattle.cardplay.specs.Cards.{Layout, Dealt, Play, hand, to_play, held, follows, may_play, legal_in, some_hands, legal_set, still, live_after}
use Rattle.cardplay.specs.Plans.{nowhere}
use Rattle.cardplay.specs.Deals.{layout}
use Rattle.cardplay.specs.Dealing.{four_hands}
use Rattle.cardplay.proofs.LegalSet.{has_may_play}
use Rattle.deals.specs.Dealing.{dealt_of}
use Rattle.deals.specs.declared.state.State.{State}
use Rattle.deals.specs.States.{play_of, legal_there}

-- ---- hands

empty_hand : (k : ℕ) → hand nowhere k ≡ 0
empty_hand zero = refl
empty_hand (suc zero) = refl
empty_hand (suc (suc zero)) = refl
empty_hand (suc (suc (suc k))) = refl

beside : (d : Deal) (l : Defence) (k : ℕ) → hand (four_hands d l) k ≡ seat_hand d l k
beside d l zero = refl
beside d l (suc zero) = refl
beside d l (suc (suc zero)) = refl
beside d l (suc (suc (suc k))) = refl

-- the hand of a seat in a layout is what the problem answers, and empty where it has no such layout
among : (d : Deal) (ls : List Defence) (i k : ℕ) → hand (get_or (map (four_hands d) ls) i nowhere) k ≡ unwrap_or (hand_among d ls i k) 0
among d [] i k = empty_hand k
among d (l ∷ ls) zero k = beside d l k
among d (l ∷ ls) (suc i) k = among d ls i k

pub dealt_hand : (d : Deal) (i k : ℕ) (o : Option CardSet) (n : CardSet) → option_map bits_of o ≡ hand_among d d.layouts i k → bits_of n ≡ 0
    → bits_of (unwrap_or o n) ≡ hand (get_or (map (four_hands d) d.layouts) i nowhere) k
dealt_hand d i k None n e z = z ∙ ap (λ (h : Option ℕ). unwrap_or h 0) e ∙ sym (among d d.layouts i k)
dealt_hand d i k (Some h) n e z = ap (λ (h : Option ℕ). unwrap_or h 0) e ∙ sym (among d d.layouts i k)

-- ---- there are at most six

pub six : (p : Problem) → length (dealt_of p).layouts ≤ 6
six p =
    let a = length-map (deal_of p).layouts (four_hands (deal_of p)) in
    let b = length-map (take p.parts.count p.parts.layouts) defence in
    let c = length-take p.parts.count p.parts.layouts in
    let w = p.parts.within in
    omega arith

-- ---- the legal cards of one layout after the other

-- no cards are legal in a layout that none has
no_hand : (d : Dealt) (p : Play) → held d p nowhere ≡ 0
no_hand d p = ap (λ (h : ℕ). bit_and h p.unplayed) (empty_hand (to_play d p)) ∙ and_zero_l p.unplayed

none_to_play : (t : List ℕ) → may_play 0 t ≡ 0
none_to_play [] = refl
none_to_play (c ∷ cs) = simp and_zero_l

no_cards : (d : Dealt) (p : Play) (b : Bool) → cond b (may_play (held d p nowhere) p.trick) 0 ≡ 0
no_cards d p true = ap (λ (h : ℕ). may_play h p.trick) (no_hand d p) ∙ none_to_play p.trick
no_cards d p false = refl

module _ (d : Dealt) (p : Play) where
  hands_from : (ls : List Layout) (i j : ℕ) → some_hands d p (drop i ls) j
      ≡ bit_or (cond (has p.live j) (may_play (held d p (get_or ls i nowhere)) p.trick) 0) (some_hands d p (drop (suc i) ls) (suc j))
  hands_from [] zero j = sym (or_zero_r _ ∙ no_cards d p (has p.live j))
  hands_from [] (suc i) j = sym (or_zero_r _ ∙ no_cards d p (has p.live j))
  hands_from (l ∷ ls) zero j = refl
  hands_from (l ∷ ls) (suc i) j = hands_from ls i j

  -- the cards of one layout more, and of all
  pub next_hand : (i acc x r : ℕ) → x ≡ legal_there d p i → r ≡ bit_or acc x
      → bit_or acc (some_hands d p (drop i d.layouts) i) ≡ legal_set d p
      → bit_or r (some_hands d p (drop (i + 1) d.layouts) (i + 1)) ≡ legal_set d p
  next_hand i acc x r e f h =
      ap (λ (n : ℕ). bit_or r (some_hands d p (drop n d.layouts) n)) (add-one i)
      ∙ ap (λ (n : ℕ). bit_or n (some_hands d p (drop (suc i) d.layouts) (suc i))) (f ∙ ap (bit_or acc) e)
      ∙ or_assoc acc (legal_there d p i) (some_hands d p (drop (suc i) d.layouts) (suc i))
      ∙ ap (bit_or acc) (sym (hands_from d.layouts i i)) ∙ h

  pub all_hands : (n acc : ℕ) → length d.layouts ≤ n → bit_or acc (some_hands d p (drop n d.layouts) n) ≡ legal_set d p → acc ≡ legal_set d p
  all_hands n acc l h =
      sym (or_zero_r acc) ∙ sym (ap (λ (ls : List Layout). bit_or acc (some_hands d p ls n)) (drop_of_length-le d.layouts {i = n} l)) ∙ h

module _ (q : Problem) (s : State) where
  -- the legal cards of the layouts from one on
  unfoldable pub hands_from_on : ℕ → ℕ
  hands_from_on i = some_hands (dealt_of q) (play_of s) (drop i (dealt_of q).layouts) i

  -- those so far with the cards of one layout more, in the words of the code
  pub more_hands : (i acc x r : ℕ) → r ≡ bit_or acc x → x ≡ legal_there (dealt_of q) (play_of s) i
      → bit_or acc (hands_from_on i) ≡ legal_set (dealt_of q) (play_of s)
      → bit_or r (hands_from_on (i + 1)) ≡ legal_set (dealt_of q) (play_of s)
  unfolding hands_from_on
  more_hands i acc x r f e h = next_hand (dealt_of q) (play_of s) i acc x r e f h

-- ---- the live layouts of one after the other

module _ (d : Dealt) (p : Play) (c : ℕ) where
  illegal : legal_in d p nowhere c ≡ false
  illegal = ap (λ (h : ℕ). has h c && follows (held d p nowhere) p.trick c) (no_hand d p) ∙ ap (λ (b : Bool). b && follows (held d p nowhere) p.trick c) (has_zero c)

  dead : (j : ℕ) → cond (has p.live j && legal_in d p nowhere c) (2 ^ j) 0 ≡ 0
  dead j = cond-false (has p.live j && legal_in d p nowhere c) (2 ^ j) 0 (and_right (has p.live j) (legal_in d p nowhere c) illegal)

  live_from : (ls : List Layout) (i j : ℕ) → still d p (drop i ls) j c
      ≡ cond (has p.live j && legal_in d p (get_or ls i nowhere) c) (2 ^ j) 0 + still d p (drop (suc i) ls) (suc j) c
  live_from [] zero j = sym (add-zero _ ∙ dead j)
  live_from [] (suc i) j = sym (add-zero _ ∙ dead j)
  live_from (l ∷ ls) zero j = refl
  live_from (l ∷ ls) (suc i) j = live_from ls i j

  if_live : (l : Layout) (b : Bool) → has (cond b (may_play (held d p l) p.trick) 0) c ≡ (b && legal_in d p l c)
  if_live l true = has_may_play (held d p l) p.trick c
  if_live l false = has_zero c

  legal_now : (i x : ℕ) (b : Bool) → x ≡ legal_there d p i → b ≡ has x c → has p.live i && legal_in d p (layout d i) c ≡ b
  legal_now i x b v t = sym (t ∙ ap (λ (n : ℕ). has n c) v ∙ if_live (layout d i) (has p.live i))

  -- the layouts so far with the next one, or without it
  pub next_live : (i acc r x : ℕ) → x ≡ legal_there d p i → true ≡ has x c → i < 64 → ((k : ℕ) → has r k ≡ (has acc k || (eqb k i && ltb k 64)))
      → (acc + still d p (drop i d.layouts) i c ≡ live_after d p c) × (acc < 2 ^ i)
      → (r + still d p (drop (i + 1) d.layouts) (i + 1) c ≡ live_after d p c) × (r < 2 ^ (i + 1))
  next_live i acc r x v t l m (h, small) =
      let b = legal_now i x true v t in
      let e = live_from d.layouts i i ∙ ap (λ (n : ℕ). n + still d p (drop (suc i) d.layouts) (suc i) c) (cond-true (has p.live i && legal_in d p (layout d i) c) (2 ^ i) 0 b) in
      let f : r ≡ acc + 2 ^ i = added in
      let n = ap (λ (n : ℕ). still d p (drop n d.layouts) n c) (add-one i) in
      let q = pow-suc 2 i in
      let w = ap (λ (n : ℕ). 2 ^ n) (add-one i) in
      (omega arith, omega arith)
    where
      fits : (k : ℕ) → (eqb k i && ltb k 64) ≡ eqb k i
      fits k = grind (arith, nat_tests)

      added : r ≡ acc + 2 ^ i
      added =
          has_ext r (bit_or acc (2 ^ i)) (λ k. m k ∙ ap (λ (b : Bool). has acc k || b) (fits k ∙ sym (has_pow i k)) ∙ sym (has_or acc (2 ^ i) k))
          ∙ or_pow_new acc i (has_high i acc i small (omega arith))

  pub next_dead : (i acc r x : ℕ) → x ≡ legal_there d p i → false ≡ has x c → r ≡ acc
      → (acc + still d p (drop i d.layouts) i c ≡ live_after d p c) × (acc < 2 ^ i)
      → (r + still d p (drop (i + 1) d.layouts) (i + 1) c ≡ live_after d p c) × (r < 2 ^ (i + 1))
  next_dead i acc r x v t f (h, small) =
      let b = legal_now i x false v t in
      let e = live_from d.layouts i i ∙ ap (λ (n : ℕ). n + still d p (drop (suc i) d.layouts) (suc i) c) (cond-false (has p.live i && legal_in d p (layout d i) c) (2 ^ i) 0 b) in
      let n = ap (λ (n : ℕ). still d p (drop n d.layouts) n c) (add-one i) in
      let q = pow-suc 2 i in
      let w = ap (λ (n : ℕ). 2 ^ n) (add-one i) in
      (omega arith, omega arith)

  -- either way, by whether the card is among those that are legal in it
  pub next_layout : (i acc r x : ℕ) → x ≡ legal_there d p i → i < 64
      → (has x c ≡ true → (k : ℕ) → has r k ≡ (has acc k || (eqb k i && ltb k 64))) → (has x c ≡ false → r ≡ acc)
      → (acc + still d p (drop i d.layouts) i c ≡ live_after d p c) × (acc < 2 ^ i)
      → (r + still d p (drop (i + 1) d.layouts) (i + 1) c ≡ live_after d p c) × (r < 2 ^ (i + 1))
  next_layout i acc r x v l added same h = by (has x c) refl
    where
      by : (b : Bool) → has x c ≡ b → (r + still d p (drop (i + 1) d.layouts) (i + 1) c ≡ live_after d p c) × (r < 2 ^ (i + 1))
      by true t = next_live i acc r x v (sym t) l (added t) h
      by false t = next_dead i acc r x v (sym t) (same t) h

  pub all_live : (n acc : ℕ) → length d.layouts ≤ n → acc + still d p (drop n d.layouts) n c ≡ live_after d p c → acc ≡ live_after d p c
  all_live n acc l h =
      sym (add-zero acc) ∙ sym (ap (λ (ls : List Layout). acc + still d p ls n c) (drop_of_length-le d.layouts {i = n} l)) ∙ h
