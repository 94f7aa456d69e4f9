-- The winner of a trick wins it by the rules: of the cards seen so far, none beats the one that leads.
use Rattle.std.proofs.Common.{◌≡◌, ℕ, suc, ◌+◌, ◌<◌, ◌≤◌, Bool, true, false, not, ◌&&◌, ◌||◌, eqb, ltb, ◌⊎◌, List, [], ◌∷◌, length, get_or, Some, None, Option, sym, refl, ap, ◌∙◌, subst, inl, inr, suc-le-suc, zero-le, add-zero, arith}
use Rattle.std.proofs.lemmas.Bool.{both_ways, eqb-true, eq-eqb, eqb-false, ne_eqb, ltb-true, lt-ltb, cases_lt, cases_eq, and_parts, and_from, or_cases, or_right, not-true, not_from_false, cond_both}
use Rattle.cardplay.specs.Cards.{suit, rank, Layout, Dealt, beats, winner_from, winner}
use Rattle.cardplay.specs.Winning.{card_at, Distinct, NoneOf, Highest, Wins, WinnerTheorem}

-- the suit and the rank tell the card
same_card : (x y : ℕ) → suit x ≡ suit y → rank x ≡ rank y → x ≡ y
same_card x y e f = omega arith

abbrev Trump : Option ℕ → ℕ → Type 0
Trump None c = ⊥
Trump (Some t) c = suit c ≡ t

same_trump : (o : Option ℕ) (x y : ℕ) → suit x ≡ suit y → Trump o x → Trump o y
same_trump None x y e h = h
same_trump (Some t) x y e h = sym e ∙ h

-- ---- what it says that a card beats another, and that it does not

abbrev Over : Option ℕ → ℕ → ℕ → Type 0
Over o x w = ((suit x ≡ suit w) × (rank w < rank x)) ⊎ (Trump o x × (Trump o w → ⊥))

abbrev NotOver : Option ℕ → ℕ → ℕ → Type 0
NotOver o x w = (Trump o x → Trump o w) × (suit x ≡ suit w → rank x ≤ rank w)

abbrev higher : ℕ → ℕ → Bool
higher x w = eqb (suit x) (suit w) && ltb (rank w) (rank x)

is_higher : (x w : ℕ) → higher x w ≡ true → (suit x ≡ suit w) × (rank w < rank x)
is_higher x w h =
    let (a, b) = and_parts (eqb (suit x) (suit w)) (ltb (rank w) (rank x)) h in
    (eqb-true (suit x) (suit w) a, ltb-true (rank w) (rank x) b)

not_higher : (x w : ℕ) → higher x w ≡ false → suit x ≡ suit w → rank x ≤ rank w
not_higher x w h e = by (cases_lt (rank w) (rank x))
  where
    by : (rank w < rank x) ⊎ (rank x ≤ rank w) → rank x ≤ rank w
    by (inl l) =
        absurd (both_ways (higher x w) h
        (and_from (eqb (suit x) (suit w)) (ltb (rank w) (rank x)) (eq-eqb (suit x) (suit w) e) (lt-ltb (rank w) (rank x) l)))
    by (inr l) = l

module _ (ls : List Layout) (l : ℕ) where
  abbrev deal : Option ℕ → Dealt
  deal o = record { trump = o; layouts = ls; leader = l }

  over : (o : Option ℕ) (x w : ℕ) → beats (deal o) x w ≡ true → Over o x w
  over None x w h = inl (is_higher x w h)
  over (Some t) x w h = by (or_cases (higher x w) (eqb (suit x) t && not (eqb (suit w) t)) h)
    where
      by : (higher x w ≡ true) ⊎ ((eqb (suit x) t && not (eqb (suit w) t)) ≡ true) → Over (Some t) x w
      by (inl a) = inl (is_higher x w a)
      by (inr a) =
          let (b, c) = and_parts (eqb (suit x) t) (not (eqb (suit w) t)) a in
          inr (eqb-true (suit x) t b, eqb-false (suit w) t (not-true (eqb (suit w) t) c))

  not_over : (o : Option ℕ) (x w : ℕ) → beats (deal o) x w ≡ false → NotOver o x w
  not_over None x w h = (λ a. a, not_higher x w h)
  not_over (Some t) x w h = (λ a. by a (cases_eq (suit w) t), not_higher x w (left (higher x w) h))
    where
      left : (b : Bool) → (b || (eqb (suit x) t && not (eqb (suit w) t))) ≡ false → b ≡ false
      left true e = e
      left false e = refl

      by : suit x ≡ t → (suit w ≡ t) ⊎ (suit w ≡ t → ⊥) → suit w ≡ t
      by a (inl e) = e
      by a (inr n) =
          absurd (both_ways (beats (deal (Some t)) x w) h
          (or_right (higher x w) (eqb (suit x) t && not (eqb (suit w) t))
          (and_from (eqb (suit x) t) (not (eqb (suit w) t)) (eq-eqb (suit x) t a) (not_from_false (eqb (suit w) t) (ne_eqb (suit w) t n)))))

-- ---- the card that leads after n cards

-- a card y that lost to w: no trump unless w is one, and lower than w if of its suit
abbrev Under : Option ℕ → ℕ → ℕ → Type 0
Under o y w = (Trump o y → Trump o w) × (suit y ≡ suit w → rank y < rank w)

record Leads (o : Option ℕ) (cs : List ℕ) (n at : ℕ) : Type 0 where
  seen : at < n
  follows : Trump o (card_at cs at) ⊎ (suit (card_at cs at) ≡ suit (card_at cs 0))
  under : (j : ℕ) → j < n → (j ≡ at → ⊥) → Under o (card_at cs j) (card_at cs at)

module _ (o : Option ℕ) where
  -- a card that beats w is over all that lost to w, and over w
  beaten : (x w : ℕ) → Over o x w → Under o w x
  beaten x w (inl (e, l)) = (same_trump o w x (sym e), λ f. l)
  beaten x w (inr (t, n)) = (λ a. t, λ e. absurd (n (same_trump o x w (sym e) t)))

  beaten_too : (x w y : ℕ) → Over o x w → Under o y w → Under o y x
  beaten_too x w y (inl (e, l)) (a, b) = (λ t. same_trump o w x (sym e) (a t), λ f. let m = b (f ∙ e) in omega arith)
  beaten_too x w y (inr (t, n)) (a, b) = (λ u. t, λ e. absurd (n (a (same_trump o x y (sym e) t))))

  still_follows : (x w s : ℕ) → Over o x w → Trump o w ⊎ (suit w ≡ s) → Trump o x ⊎ (suit x ≡ s)
  still_follows x w s (inl (e, l)) (inl t) = inl (same_trump o w x (sym e) t)
  still_follows x w s (inl (e, l)) (inr f) = inr (e ∙ f)
  still_follows x w s (inr (t, n)) f = inl t

  -- one card more
  module _ (cs : List ℕ) (distinct : Distinct cs) (n at : ℕ) (more : n < length cs) (h : Leads o cs n at) where
    passed : Over o (card_at cs n) (card_at cs at) → Leads o cs (suc n) n
    passed b =
        record {
          seen = omega arith;
          follows = still_follows (card_at cs n) (card_at cs at) (suit (card_at cs 0)) b h.follows;
          under = λ j l m. by j (omega arith) (cases_eq j at);
        }
      where
        by : (j : ℕ) → j < n → (j ≡ at) ⊎ (j ≡ at → ⊥) → Under o (card_at cs j) (card_at cs n)
        by j l (inl e) = subst (λ (k : ℕ). Under o (card_at cs k) (card_at cs n)) (sym e) (beaten (card_at cs n) (card_at cs at) b)
        by j l (inr e) = beaten_too (card_at cs n) (card_at cs at) (card_at cs j) b (h.under j l e)

    stays : NotOver o (card_at cs n) (card_at cs at) → Leads o cs (suc n) at
    stays (a, b) =
        let s = h.seen in
        record { seen = omega arith; follows = h.follows; under = λ j l m. by j l m (cases_eq j n) }
      where
        lower : suit (card_at cs n) ≡ suit (card_at cs at) → rank (card_at cs n) < rank (card_at cs at)
        lower e =
            let s = h.seen in
            let l = b e in
            let m : rank (card_at cs n) ≡ rank (card_at cs at) → ⊥ =
            λ f. let q = distinct n at more (omega arith) (same_card (card_at cs n) (card_at cs at) e f) in omega arith in
            omega arith

        by : (j : ℕ) → j < suc n → (j ≡ at → ⊥) → (j ≡ n) ⊎ (j ≡ n → ⊥) → Under o (card_at cs j) (card_at cs at)
        by j l m (inl e) = subst (λ (k : ℕ). Under o (card_at cs k) (card_at cs at)) (sym e) (a, lower)
        by j l m (inr e) = h.under j (omega arith) m

  -- after all cards the card that leads wins
  leader_wins : (cs : List ℕ) (at : ℕ) → Leads o cs (length cs) at → Wins o cs at
  leader_wins cs at h = by o h
    where
      highest : (o : Option ℕ) (s : ℕ) → Leads o cs (length cs) at → suit (card_at cs at) ≡ s → Highest s cs at
      highest o s h e = record { there = h.seen; suited = e; lower = λ j l m f. (h.under j l m).1 (f ∙ sym e) }

      none : (t : ℕ) → Leads (Some t) cs (length cs) at → (suit (card_at cs at) ≡ t → ⊥) → NoneOf t cs
      none t h n j l e = go (cases_eq j at)
        where
          go : (j ≡ at) ⊎ (j ≡ at → ⊥) → ⊥
          go (inl q) = n (subst (λ (k : ℕ). suit (card_at cs k) ≡ t) q e)
          go (inr q) = n ((h.under j l q).0 e)

      suited : (t : ℕ) → Leads (Some t) cs (length cs) at → (suit (card_at cs at) ≡ t) ⊎ (suit (card_at cs at) ≡ t → ⊥)
          → (suit (card_at cs at) ≡ t) ⊎ (suit (card_at cs at) ≡ suit (card_at cs 0)) → Wins (Some t) cs at
      suited t h (inl e) f = inl (highest (Some t) t h e)
      suited t h (inr n) (inl f) = absurd (n f)
      suited t h (inr n) (inr f) = inr (none t h n, highest (Some t) (suit (card_at cs 0)) h f)

      plain : Leads None cs (length cs) at → ⊥ ⊎ (suit (card_at cs at) ≡ suit (card_at cs 0)) → Wins None cs at
      plain h (inl x) = absurd x
      plain h (inr f) = highest None (suit (card_at cs 0)) h f

      by : (o : Option ℕ) → Leads o cs (length cs) at → Wins o cs at
      by None h = plain h h.follows
      by (Some t) h = suited t h (cases_eq (suit (card_at cs at)) t) h.follows

-- ---- the winner found

module _ (d : Dealt) (cs : List ℕ) (distinct : Distinct cs) where
  found : (xs : List ℕ) (w at n : ℕ) → ((k : ℕ) → get_or xs k 0 ≡ card_at cs (n + k)) → n + length xs ≡ length cs → w ≡ card_at cs at
      → Leads d.trump cs n at → Leads d.trump cs (length cs) (winner_from d w at n xs)
  found [] w at n f l e h = subst (λ (k : ℕ). Leads d.trump cs k at) (sym (add-zero n) ∙ l) h
  found (x ∷ xs) w at n f l e h =
      let ex : x ≡ card_at cs n = f 0 ∙ ap (card_at cs) (add-zero n) in
      let f' : (k : ℕ) → get_or xs k 0 ≡ card_at cs (suc n + k) = λ k. f (suc k) ∙ ap (card_at cs) (omega arith) in
      let same : beats d x w ≡ beats d (card_at cs n) (card_at cs at) = λ i. beats d (ex i) (e i) in
      cond_both (beats d x w) (winner_from d x n (suc n) xs) (winner_from d w at (suc n) xs) (Leads d.trump cs (length cs))
      (λ b. found xs x n (suc n) f' (omega arith) ex
      (passed d.trump cs distinct n at (omega arith) h (over d.layouts d.leader d.trump (card_at cs n) (card_at cs at) (sym same ∙ b))))
      (λ b. found xs w at (suc n) f' (omega arith) e
      (stays d.trump cs distinct n at (omega arith) h (not_over d.layouts d.leader d.trump (card_at cs n) (card_at cs at) (sym same ∙ b))))

winner_wins : (d : Dealt) (cs : List ℕ) → 0 < length cs → Distinct cs → Wins d.trump cs (winner d cs)
winner_wins d [] l distinct = absurd (omega arith)
winner_wins d (x ∷ xs) l distinct =
    leader_wins d.trump (x ∷ xs) (winner d (x ∷ xs))
    (found d (x ∷ xs) distinct xs x 0 1 (λ k. let e : suc k ≡ 1 + k = omega arith in ap (card_at (x ∷ xs)) e) (omega arith) refl
    (record { seen = suc-le-suc zero-le; follows = inr refl; under = λ j l m. absurd (omega arith) }))

-- ---- no other card wins

one_highest : (s : ℕ) (cs : List ℕ) (i j : ℕ) → Highest s cs i → Highest s cs j → i ≡ j
one_highest s cs i j h k = by (cases_eq i j)
  where
    by : (i ≡ j) ⊎ (i ≡ j → ⊥) → i ≡ j
    by (inl e) = e
    by (inr n) =
        let a = h.lower j k.there (λ e. n (sym e)) k.suited in
        let b = k.lower i h.there n h.suited in
        absurd (omega arith)

one_wins : (o : Option ℕ) (cs : List ℕ) (i j : ℕ) → Wins o cs i → Wins o cs j → i ≡ j
one_wins None cs i j h k = one_highest (suit (card_at cs 0)) cs i j h k
one_wins (Some t) cs i j (inl h) (inl k) = one_highest t cs i j h k
one_wins (Some t) cs i j (inl h) (inr (n, k)) = absurd (n i h.there h.suited)
one_wins (Some t) cs i j (inr (n, h)) (inl k) = absurd (n j k.there k.suited)
one_wins (Some t) cs i j (inr (n, h)) (inr (m, k)) = one_highest (suit (card_at cs 0)) cs i j h k

-- by the rules the winner wins, and alone
pub winner_theorem : WinnerTheorem
winner_theorem d cs l distinct =
    let w = winner_wins d cs l distinct in
    (w, λ i h. one_wins d.trump cs i (winner d cs) h w)
