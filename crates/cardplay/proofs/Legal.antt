-- Legal cards: in which layouts a card is legal, which layouts it leaves live, and the list of them.
use Rattle.std.proofs.Common.{◌≡◌, ℕ, zero, suc, ◌+◌, ◌-◌, ◌<◌, ◌≤◌, true, false, ◌&&◌, ◌||◌, eqb, ◌⊎◌, List, [], ◌∷◌, length, get_or, sym, refl, ◌∙◌, subst, inl, inr, suc-le-suc, zero-le, add-zero, zero-add, arith, lit≤}
use lib.Bits.{bit_and}
use Rattle.std.proofs.lemmas.Bool.{both_ways, eqb-true, eq-eqb, ne_eqb, cases_lt, cases_eq, and_parts, and_from, or_cases, or_from, or_left, or_right, and_right, cond_both, false≢true}
use Rattle.bitsets.specs.Sets.{has}
use Rattle.cards.proofs.Sets.{has_suit}
use Rattle.cardplay.specs.Cards.{Layout, Dealt, Play, suit, of_suit, follows, legal_in, some_legal, legal, still, live_after, legal_from, legal_cards}
use Rattle.cardplay.specs.Plans.{nowhere}
use Rattle.cardplay.specs.Deals.{layout}
use Rattle.bitsets.proofs.Digits.{has_flag, has_zero, some_digit, and_has_l, and_has_r}

-- membership in a list of cards
abbrev pub In : ℕ → List ℕ → Type 0
In c [] = ⊥
In c (x ∷ xs) = (c ≡ x) ⊎ In c xs

-- ---- some card is legal

-- a card of a suit is of that suit
pub of_suit_suit : (s c : ℕ) → has (of_suit s) c ≡ true → suit c ≡ s
of_suit_suit s c h = eqb-true (suit c) s (sym (has_suit s c) ∙ h)

-- a hand that is not empty has a card that may follow
pub some_follows : (h : ℕ) (t : List ℕ) → 0 < h → (c : ℕ) × (has h c && follows h t c ≡ true)
some_follows h [] p = let s = some_digit h p in (s.0, and_from (has h s.0) true s.1 refl)
some_follows h (led ∷ cs) p = by (cases_lt 0 (bit_and h (of_suit (suit led))))
  where
    by : (0 < bit_and h (of_suit (suit led))) ⊎ (bit_and h (of_suit (suit led)) ≤ 0) → (c : ℕ) × (has h c && (eqb (suit c) (suit led) || eqb (bit_and h (of_suit (suit led))) 0) ≡ true)
    by (inl q) =
        let s = some_digit (bit_and h (of_suit (suit led))) q in
        let c = s.0 in (
          c,
          and_from (has h c) (eqb (suit c) (suit led) || eqb (bit_and h (of_suit (suit led))) 0) (and_has_l h (of_suit (suit led)) c s.1)
              (or_left (eqb (suit c) (suit led)) (eqb (bit_and h (of_suit (suit led))) 0)
              (eq-eqb (suit c) (suit led) (of_suit_suit (suit led) c (and_has_r h (of_suit (suit led)) c s.1)))),
        )
    by (inr q) =
        let s = some_digit h p in
        let c = s.0 in (
          c,
          and_from (has h c) (eqb (suit c) (suit led) || eqb (bit_and h (of_suit (suit led))) 0) s.1
              (or_right (eqb (suit c) (suit led)) (eqb (bit_and h (of_suit (suit led))) 0)
              (eq-eqb (bit_and h (of_suit (suit led))) 0 (omega arith))),
        )

module _ (d : Dealt) where
  -- ---- the layouts where a card is legal

  -- place m of the layouts ls, the first of which is layout i
  abbrev LegalAt : Play → List Layout → ℕ → ℕ → ℕ → Type 0
  LegalAt p ls i c m = (m < length ls) × (has p.live (i + m) ≡ true) × (legal_in d p (get_or ls m nowhere) c ≡ true)

  later : (p : Play) (l : Layout) (ls : List Layout) (i c m : ℕ) → LegalAt p ls (suc i) c m → LegalAt p (l ∷ ls) i c (suc m)
  later p l ls i c m h =
      let e : suc i + m ≡ i + suc m = omega arith in
      (suc-le-suc h.0, subst (λ (x : ℕ). has p.live x ≡ true) e h.1, h.2)

  earlier : (p : Play) (l : Layout) (ls : List Layout) (i c m : ℕ) → LegalAt p (l ∷ ls) i c (suc m) → LegalAt p ls (suc i) c m
  earlier p l ls i c m h =
      let e : i + suc m ≡ suc i + m = omega arith in
      let k = h.0 in
      (omega arith, subst (λ (x : ℕ). has p.live x ≡ true) e h.1, h.2)

  legal_some : (p : Play) (ls : List Layout) (i c : ℕ) → some_legal d p ls i c ≡ true → (m : ℕ) × LegalAt p ls i c m
  legal_some p [] i c h = absurd (false≢true h)
  legal_some p (l ∷ ls) i c h =
      by (legal_some p ls (suc i) c) (or_cases (has p.live i && legal_in d p l c) (some_legal d p ls (suc i) c) h)
    where
      by : (some_legal d p ls (suc i) c ≡ true → (m : ℕ) × LegalAt p ls (suc i) c m)
          → ((has p.live i && legal_in d p l c) ≡ true) ⊎ (some_legal d p ls (suc i) c ≡ true) → (m : ℕ) × LegalAt p (l ∷ ls) i c m
      by ih (inl e) =
          let b = and_parts (has p.live i) (legal_in d p l c) e in
          (0, (suc-le-suc zero-le, subst (λ (x : ℕ). has p.live x ≡ true) (sym (add-zero i)) b.0, b.1))
      by ih (inr e) = (suc (ih e).0, later p l ls i c (ih e).0 (ih e).1)

  some_is_legal : (p : Play) (ls : List Layout) (i c m : ℕ) → LegalAt p ls i c m → some_legal d p ls i c ≡ true
  some_is_legal p [] i c m h = let k = h.0 in absurd (omega arith)
  some_is_legal p (l ∷ ls) i c zero h =
      or_left (has p.live i && legal_in d p l c) (some_legal d p ls (suc i) c)
      (and_from (has p.live i) (legal_in d p l c) (subst (λ (x : ℕ). has p.live x ≡ true) (add-zero i) h.1) h.2)
  some_is_legal p (l ∷ ls) i c (suc m) h =
      or_right (has p.live i && legal_in d p l c) (some_legal d p ls (suc i) c)
      (some_is_legal p ls (suc i) c m (earlier p l ls i c m h))

  -- a card is legal when it is legal in some live layout
  pub record LegalIn (p : Play) (c i : ℕ) : Type 0 where
    pub listed : i < length d.layouts
    pub alive : has p.live i ≡ true
    pub there : legal_in d p (layout d i) c ≡ true

  from_at : (p : Play) (c m : ℕ) → LegalAt p d.layouts 0 c m → LegalIn p c m
  from_at p c m h = record { listed = h.0; alive = subst (λ (x : ℕ). has p.live x ≡ true) (zero-add m) h.1; there = h.2 }

  to_at : (p : Play) (c m : ℕ) → LegalIn p c m → LegalAt p d.layouts 0 c m
  to_at p c m h = (h.listed, subst (λ (x : ℕ). has p.live x ≡ true) (sym (zero-add m)) h.alive, h.there)

  pub legal_where : (p : Play) (c : ℕ) → legal d p c ≡ true → (i : ℕ) × LegalIn p c i
  legal_where p c h = let s = legal_some p d.layouts 0 c h in (s.0, from_at p c s.0 s.1)

  pub where_legal : (p : Play) (c i : ℕ) → LegalIn p c i → legal d p c ≡ true
  where_legal p c i h = some_is_legal p d.layouts 0 c i (to_at p c i h)

  -- ---- the layouts that a card leaves live

  still_low : (p : Play) (ls : List Layout) (i c j : ℕ) → j < i → has (still d p ls i c) j ≡ false
  still_low p [] i c j h = has_zero j
  still_low p (l ∷ ls) i c j h =
      let b = has p.live i && legal_in d p l c in
      has_flag b i (still d p ls (suc i) c) j (still_low p ls (suc i) c i (omega arith))
      ∙ or_from (b && eqb j i) (has (still d p ls (suc i) c) j) (and_right b (eqb j i) (ne_eqb j i (omega arith)))
      (still_low p ls (suc i) c j (omega arith))

  still_has : (p : Play) (ls : List Layout) (i c m : ℕ) → has (still d p ls i c) (i + m) ≡ true → LegalAt p ls i c m
  still_has p [] i c m h = absurd (both_ways (has 0 (i + m)) (has_zero (i + m)) h)
  still_has p (l ∷ ls) i c zero h =
      let b = has p.live i && legal_in d p l c in
      let e = add-zero i in
      let f = has_flag b i (still d p ls (suc i) c) (i + 0) (still_low p ls (suc i) c i (omega arith)) in
      pick (or_cases (b && eqb (i + 0) i) (has (still d p ls (suc i) c) (i + 0)) (sym f ∙ h))
    where
      pick : (((has p.live i && legal_in d p l c) && eqb (i + 0) i) ≡ true) ⊎ (has (still d p ls (suc i) c) (i + 0) ≡ true) → LegalAt p (l ∷ ls) i c 0
      pick (inl k) =
          let b = and_parts (has p.live i && legal_in d p l c) (eqb (i + 0) i) k in
          let q = and_parts (has p.live i) (legal_in d p l c) b.0 in
          (suc-le-suc zero-le, subst (λ (x : ℕ). has p.live x ≡ true) (sym (add-zero i)) q.0, q.1)
      pick (inr k) = absurd (both_ways (has (still d p ls (suc i) c) (i + 0)) (still_low p ls (suc i) c (i + 0) (omega arith)) k)
  still_has p (l ∷ ls) i c (suc m) h =
      let b = has p.live i && legal_in d p l c in
      let f = has_flag b i (still d p ls (suc i) c) (i + suc m) (still_low p ls (suc i) c i (omega arith)) in
      later p l ls i c m (still_has p ls (suc i) c m (pick (or_cases (b && eqb (i + suc m) i) (has (still d p ls (suc i) c) (i + suc m)) (sym f ∙ h))))
    where
      pick : (((has p.live i && legal_in d p l c) && eqb (i + suc m) i) ≡ true) ⊎ (has (still d p ls (suc i) c) (i + suc m) ≡ true)
          → has (still d p ls (suc i) c) (suc i + m) ≡ true
      pick (inl k) =
          let b = and_parts (has p.live i && legal_in d p l c) (eqb (i + suc m) i) k in
          let e = eqb-true (i + suc m) i b.1 in
          absurd (omega arith)
      pick (inr k) = let e : i + suc m ≡ suc i + m = omega arith in subst (λ (x : ℕ). has (still d p ls (suc i) c) x ≡ true) e k

  has_still : (p : Play) (ls : List Layout) (i c m : ℕ) → LegalAt p ls i c m → has (still d p ls i c) (i + m) ≡ true
  has_still p [] i c m h = let k = h.0 in absurd (omega arith)
  has_still p (l ∷ ls) i c zero h =
      let b = has p.live i && legal_in d p l c in
      let q = and_from (has p.live i) (legal_in d p l c) (subst (λ (x : ℕ). has p.live x ≡ true) (add-zero i) h.1) h.2 in
      has_flag b i (still d p ls (suc i) c) (i + 0) (still_low p ls (suc i) c i (omega arith))
      ∙ or_left (b && eqb (i + 0) i) (has (still d p ls (suc i) c) (i + 0)) (and_from b (eqb (i + 0) i) q (eq-eqb (i + 0) i (add-zero i)))
  has_still p (l ∷ ls) i c (suc m) h =
      let b = has p.live i && legal_in d p l c in
      let e : suc i + m ≡ i + suc m = omega arith in
      has_flag b i (still d p ls (suc i) c) (i + suc m) (still_low p ls (suc i) c i (omega arith))
      ∙ or_right (b && eqb (i + suc m) i) (has (still d p ls (suc i) c) (i + suc m))
      (subst (λ (x : ℕ). has (still d p ls (suc i) c) x ≡ true) e (has_still p ls (suc i) c m (earlier p l ls i c m h)))

  pub live_where : (p : Play) (c i : ℕ) → has (live_after d p c) i ≡ true → LegalIn p c i
  live_where p c i h =
      from_at p c i (still_has p d.layouts 0 c i (subst (λ (x : ℕ). has (live_after d p c) x ≡ true) (sym (zero-add i)) h))

  pub where_live : (p : Play) (c i : ℕ) → LegalIn p c i → has (live_after d p c) i ≡ true
  where_live p c i h = subst (λ (x : ℕ). has (live_after d p c) x ≡ true) (zero-add i) (has_still p d.layouts 0 c i (to_at p c i h))

  -- ---- the list of legal cards

  listed_legal : (p : Play) (k c : ℕ) → In c (legal_from d p k) → (legal d p c ≡ true) × (c < 52)
  listed_legal p zero c = λ h. absurd h
  listed_legal p (suc k) c =
      cond_both (legal d p (51 - k)) ((51 - k) ∷ legal_from d p k) (legal_from d p k)
      (λ (xs : List ℕ). In c xs → (legal d p c ≡ true) × (c < 52)) (λ e h. by (listed_legal p k c) e h) (λ e h. listed_legal p k c h)
    where
      by : (In c (legal_from d p k) → (legal d p c ≡ true) × (c < 52)) → legal d p (51 - k) ≡ true
          → (c ≡ 51 - k) ⊎ In c (legal_from d p k) → (legal d p c ≡ true) × (c < 52)
      by ih e (inl q) = (subst (λ (x : ℕ). legal d p x ≡ true) (sym q) e, omega arith)
      by ih e (inr q) = ih q

  legal_listed : (p : Play) (k c : ℕ) → k ≤ 52 → legal d p c ≡ true → 52 - k ≤ c → c < 52 → In c (legal_from d p k)
  legal_listed p zero c l h m n = absurd (omega arith)
  legal_listed p (suc k) c l h m n =
      let later : (c ≡ 51 - k → ⊥) → In c (legal_from d p k) = λ q. legal_listed p k c (omega arith) h (omega arith) n in
      cond_both (legal d p (51 - k)) ((51 - k) ∷ legal_from d p k) (legal_from d p k) (λ (xs : List ℕ). In c xs)
      (λ e. one later (cases_eq c (51 - k))) (λ e. none later e (cases_eq c (51 - k)))
    where
      one : ((c ≡ 51 - k → ⊥) → In c (legal_from d p k)) → (c ≡ 51 - k) ⊎ (c ≡ 51 - k → ⊥) → (c ≡ 51 - k) ⊎ In c (legal_from d p k)
      one r (inl q) = inl q
      one r (inr q) = inr (r q)

      none : ((c ≡ 51 - k → ⊥) → In c (legal_from d p k)) → legal d p (51 - k) ≡ false
          → (c ≡ 51 - k) ⊎ (c ≡ 51 - k → ⊥) → In c (legal_from d p k)
      none r e (inl q) = absurd (both_ways (legal d p (51 - k)) e (subst (λ (x : ℕ). legal d p x ≡ true) q h))
      none r e (inr q) = r q

  listed_few : (p : Play) (k : ℕ) → length (legal_from d p k) ≤ k
  listed_few p zero = zero-le
  listed_few p (suc k) =
      let ih = listed_few p k in
      cond_both (legal d p (51 - k)) ((51 - k) ∷ legal_from d p k) (legal_from d p k) (λ (xs : List ℕ). length xs ≤ suc k)
      (λ e. suc-le-suc ih) (λ e. omega arith)

  pub cards_legal : (p : Play) (c : ℕ) → In c (legal_cards d p) → legal d p c ≡ true
  unfolding legal_cards
  cards_legal p c h = (listed_legal p 52 c h).0

  pub legal_card : (p : Play) (c : ℕ) → legal d p c ≡ true → c < 52 → In c (legal_cards d p)
  unfolding legal_cards
  legal_card p c h n = legal_listed p 52 c (lit≤ tt) h zero-le n

  pub cards_few : (p : Play) → length (legal_cards d p) ≤ 52
  unfolding legal_cards
  cards_few p = listed_few p 52
