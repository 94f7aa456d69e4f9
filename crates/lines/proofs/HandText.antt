-- A hand is read from exactly its cards in rising code.
use Rattle.std.proofs.Common.{◌≡◌, ℕ, zero, suc, ◌+◌, ◌-◌, ◌*◌, ◌/◌, ◌%◌, ◌^◌, ◌<◌, ◌≤◌, Bool, true, false, cond, ◌&&◌, ltb, leb, ◌⊎◌, List, [], ◌∷◌, get_or, Some, None, Option, sym, refl, ap, ◌∙◌, subst, inl, inr, lt_of_lt_of_le, add-one, arith, pow_mono, bit_or}
use native.Mathlib.Nat.{pow-succ'}
use Rattle.std.specs.List.{AllByRecursion}
use Rattle.std.proofs.ByRecursion.{All-from_get_or}
use Rattle.std.proofs.lemmas.Bool.{ltb-false, le-ltb, leb-true, le-leb, and_parts, and_from, cases_lt, cases_eq, cond_both, cond-true, cond-false}
use Rattle.bitsets.specs.Sets.{has, members_from, members}
use Rattle.bitsets.proofs.Digits.{has_ext, has_high}
use Rattle.bitsets.proofs.Digits.{has_put, has_put_other, put_small}
use Rattle.bitsets.proofs.Members.{past_from, next_member}
use Rattle.bitsets.proofs.Members.{members_at}
use Rattle.lines.specs.Spelling.{suit_letters, rank_letters, place_of, code_of, card_of, with_card, cards_from, cards_of, size, as_hand, hand_of}
use Rattle.lines.specs.Written.{cards_text, hand_text}
use Rattle.lines.proofs.Joined.{Plain}
use Rattle.lines.proofs.Letters.{Spells, none_some, some_same, passed, place_inv, suit_back, rank_back, suit_plain, rank_plain}

-- ---- cards

code_inv : (a b : Option ℕ) (c : ℕ) → code_of a b ≡ Some c → (s r : ℕ) × (a ≡ Some s) × (b ≡ Some r) × (13 * s + r ≡ c)
code_inv None b c e = absurd (none_some c e)
code_inv (Some s) None c e = absurd (none_some c e)
code_inv (Some s) (Some r) c e = (s, r, refl, refl, some_same (13 * s + r) c e)

card_inv : (a b c : ℕ) → card_of a b ≡ Some c → (c < 52) × (a ≡ get_or suit_letters (c / 13) 0) × (b ≡ get_or rank_letters (c % 13) 0)
card_inv a b c e =
    let (s, r, p, q, w) = code_inv (place_of suit_letters a) (place_of rank_letters b) c e in
    let (k, f) = place_inv suit_letters a s p in
    let (l, g) = place_inv rank_letters b r q in
    let x : s ≡ c / 13 = omega arith in
    let y : r ≡ c % 13 = omega arith in
    (omega arith, f ∙ ap (λ (n : ℕ). get_or suit_letters n 0) x, g ∙ ap (λ (n : ℕ). get_or rank_letters n 0) y)

card_back : (c : ℕ) → c < 52 → card_of (get_or suit_letters (c / 13) 0) (get_or rank_letters (c % 13) 0) ≡ Some c
card_back c h =
    let e : 13 * (c / 13) + c % 13 ≡ c = omega arith in
    (λ i. code_of (suit_back (c / 13) (omega arith) i) (rank_back (c % 13) (omega arith) i)) ∙ ap Some e

with_inv : (low : ℕ) (o : Option ℕ) (k : ℕ → Option ℕ) (s : ℕ) → with_card low o k ≡ Some s → (c : ℕ) × (o ≡ Some c) × (low ≤ c) × (k c ≡ Some s)
with_inv low None k s e = absurd (none_some s e)
with_inv low (Some c) k s e = go (ltb c low) refl e
  where
    go : (t : Bool) → ltb c low ≡ t → cond t None (k c) ≡ Some s → (d : ℕ) × (Some c ≡ Some d) × (low ≤ d) × (k d ≡ Some s)
    go true q e = absurd (none_some s e)
    go false q e = (c, refl, ltb-false c low q, e)

-- ---- from the text

-- the first member from `low` on of a set that has, up to c, the members of one below `low`, and c
next_card : (s low cards c k m : ℕ) → low ≤ c → low + k ≡ c + 1 + m → cards < 2 ^ low → ((j : ℕ) → j < c + 1 → has s j ≡ has (bit_or cards (2 ^ c)) j)
    → members_from s low k ≡ c ∷ members_from s (c + 1) m
next_card s low cards c k m l t h same =
    next_member (c - low) k m s low c (omega arith) (omega arith)
    (λ j i n. same j (omega arith) ∙ has_put_other cards c j (λ x. omega arith) ∙ has_high low cards j h i)
    (same c (omega arith) ∙ has_put cards c)
    ∙ ap (λ (n : ℕ). c ∷ members_from s n m) (sym (add-one c))

-- what the rest of a text puts to a set: members from `low` on, which the text spells
cards_inv : (w : ℕ) → 52 ≤ w → (p : List ℕ) (low cards k s : ℕ) → low + k ≡ w → cards < 2 ^ low → cards_from low cards p ≡ Some s
    → ((j : ℕ) → j < low → has s j ≡ has cards j) × (s < 2 ^ w) × (p ≡ cards_text (members_from s low k))
cards_inv w u [] low cards k s t h e =
    let l : low ≤ w = omega arith in
    subst (λ (x : ℕ). ((j : ℕ) → j < low → has x j ≡ has cards j) × (x < 2 ^ w) × ([] ≡ cards_text (members_from x low k))) (some_same cards s e)
    (λ j i. refl, lt_of_lt_of_le h (pow_mono l), sym (ap cards_text (past_from cards low k h)))
cards_inv w u (a ∷ []) low cards k s t h e = absurd (none_some s e)
cards_inv w u (a ∷ b ∷ bs) low cards k s t h e =
    let (c, o, l, r) = with_inv low (card_of a b) (λ c. cards_from (c + 1) (bit_or cards (2 ^ c)) bs) s e in
    let (m, f, g) = card_inv a b c o in
    let small : bit_or cards (2 ^ c) < 2 ^ (c + 1) = rw add-one (put_small cards low c h l) in
    let (same, top, text) = cards_inv w u bs (c + 1) (bit_or cards (2 ^ c)) (w - (c + 1)) s (omega arith) small r in
    let next = next_card s low cards c k (w - (c + 1)) l (omega arith) h same in (
      λ j i. same j (omega arith) ∙ has_put_other cards c j (λ x. omega arith),
      top,
      (λ i. f i ∷ g i ∷ text i) ∙ ap cards_text (sym next),
    )

-- ---- from the set

-- reading on where the set so far agrees with s below i
cards_back : (k s i low cards : ℕ) → i + k ≡ 52 → low ≤ i → ((j : ℕ) → j < i → has s j ≡ has cards j) → cards < 2 ^ i → s < 2 ^ (i + k)
    → cards_from low cards (cards_text (members_from s i k)) ≡ Some s
cards_back zero s i low cards t l same h top = ap Some (has_ext cards s (λ j. by j (cases_lt j i)))
  where
    by : (j : ℕ) → (j < i) ⊎ (i ≤ j) → has cards j ≡ has s j
    by j (inl x) = sym (same j x)
    by j (inr x) = has_high i cards j h x ∙ sym (has_high (i + zero) s j top (omega arith))
cards_back (suc k) s i low cards t l same h top =
    let q : i + suc k ≡ suc i + k = omega arith in
    let top' : s < 2 ^ (suc i + k) = subst (λ (n : ℕ). s < 2 ^ n) q top in
    cond_both (has s i) (i ∷ members_from s (suc i) k) (members_from s (suc i) k) (λ cs. cards_from low cards (cards_text cs) ≡ Some s)
    (λ e. ap (λ (o : Option ℕ). with_card low o (λ c. cards_from (c + 1) (bit_or cards (2 ^ c)) (cards_text (members_from s (suc i) k)))) (card_back i (omega arith))
    ∙ cond-false (ltb i low) None (cards_from (i + 1) (bit_or cards (2 ^ i)) (cards_text (members_from s (suc i) k))) (le-ltb i low l)
    ∙ cards_back k s (suc i) (i + 1) (bit_or cards (2 ^ i)) (omega arith) (omega arith) (λ j m. more j m e (cases_eq j i)) (put_small cards i i h (omega arith)) top')
    (λ e. cards_back k s (suc i) low cards (omega arith) (omega arith) (λ j m. less j m e (cases_eq j i)) (let p = pow-succ' 2 i in omega arith) top')
  where
    more : (j : ℕ) → j < suc i → has s i ≡ true → (j ≡ i) ⊎ (j ≡ i → ⊥) → has s j ≡ has (bit_or cards (2 ^ i)) j
    more j m e (inl x) = ap (has s) x ∙ e ∙ sym (has_put cards i) ∙ ap (has (bit_or cards (2 ^ i))) (sym x)
    more j m e (inr x) = same j (omega arith) ∙ sym (has_put_other cards i j x)

    less : (j : ℕ) → j < suc i → has s i ≡ false → (j ≡ i) ⊎ (j ≡ i → ⊥) → has s j ≡ has cards j
    less j m e (inl x) = ap (has s) x ∙ e ∙ sym (has_high i cards i h (omega arith)) ∙ ap (has cards) (sym x)
    less j m e (inr x) = same j (omega arith)

-- ---- hands

-- 1 to 13 cards
pub record Hand (h : ℕ) : Type 0 where
  pub cards : h < 2 ^ 52
  pub some : 1 ≤ size h
  pub few : size h ≤ 13

-- all members, below w
whole_inv : (w : ℕ) → 52 ≤ w → (p : List ℕ) (s : ℕ) → cards_of p ≡ Some s → (s < 2 ^ w) × (p ≡ cards_text (members w s))
unfolding members
whole_inv w u p s e =
    let (same, top, text) = cards_inv w u p 0 0 w s (omega arith) (omega arith) e in
    (top, text)

whole_back : (w : ℕ) → w ≡ 52 → (s : ℕ) → s < 2 ^ w → cards_of (cards_text (members w s)) ≡ Some s
unfolding members
whole_back w u s h =
    let q : w ≡ 0 + w = omega arith in
    cards_back w s 0 0 0 (omega arith) (omega arith) (λ j l. absurd (omega arith)) (omega arith) (subst (λ (n : ℕ). s < 2 ^ n) q h)

text_plain : (cs : List ℕ) → AllByRecursion (λ c. c < 52) cs → Plain (cards_text cs)
text_plain [] h = tt
text_plain (c ∷ cs) (h, t) = (suit_plain (c / 13) (omega arith), (rank_plain (c % 13) (omega arith), text_plain cs t))

members_below : (k x : ℕ) → AllByRecursion (λ c. c < k) (members k x)
members_below k x = All-from_get_or (λ c. c < k) (members k x) 0 (λ n l. let (c, b, e, i, o) = members_at k x n l in omega arith)

pub hand_plain : (h : ℕ) → Plain (hand_text h)
hand_plain h = text_plain (members 52 h) (members_below 52 h)

hand_inv : (o : Option ℕ) (h : ℕ) → as_hand o ≡ Some h → (o ≡ Some h) × (1 ≤ size h) × (size h ≤ 13)
hand_inv None h e = absurd (none_some h e)
hand_inv (Some s) h e =
    let (t, q) = passed (leb 1 (size s) && leb (size s) 13) (Some s) h e in
    let (x, y) = and_parts (leb 1 (size s)) (leb (size s) 13) t in
    subst (λ (n : ℕ). (Some s ≡ Some n) × (1 ≤ size n) × (size n ≤ 13)) (some_same s h q) (refl, leb-true 1 (size s) x, leb-true (size s) 13 y)

pub hands : Spells hand_of Hand hand_text
hands = record { reads = reads; back = back }
  where
    reads : (p : List ℕ) (h : ℕ) → hand_of p ≡ Some h → Hand h × (p ≡ hand_text h)
    reads p h e =
        let (q, x, y) = hand_inv (cards_of p) h e in
        let (l, t) = whole_inv 52 (omega arith) p h q in
        (record { cards = l; some = x; few = y }, t)

    back : (h : ℕ) → Hand h → hand_of (hand_text h) ≡ Some h
    back h f =
        ap as_hand (whole_back 52 refl h f.cards)
        ∙ cond-true (leb 1 (size h) && leb (size h) 13) (Some h) None
        (and_from (leb 1 (size h)) (leb (size h) 13) (le-leb 1 (size h) f.some) (le-leb (size h) 13 f.few))
