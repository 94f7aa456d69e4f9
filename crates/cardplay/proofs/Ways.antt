-- Ways and reached positions, taken apart at their first card, and a plan that every position has: the lowest legal card.
use Rattle.std.proofs.Common.{◌≡◌, ℕ, ◌<◌, true, List, [], ◌∷◌, ◌++◌, sym, refl, ap, ◌∙◌, subst, inl, arith}
use lib.Count.{ones}
use Rattle.games.specs.declared.side.Side.TheVariants.{Max, Min}
use Rattle.cardplay.specs.Cards.{Layout, Dealt, Play, legal_in, legal, after_card, legal_cards, side}
use Rattle.cardplay.specs.Plans.{Plan, Reaches, start, next, Chooses, Way, ours, theirs}
use Rattle.cardplay.specs.Deals.{ValidDeal}
use Rattle.cardplay.proofs.Legal.{In, cards_legal, legal_card}
use Rattle.cardplay.proofs.Reach.{Good, good_reaches, some_card, card_small}

module _ (d : Dealt) where
  pub data Front (p : Play) : List ℕ → Play → Type 0 where
    here : Front p [] p
    there : {cs : List ℕ} {q : Play} (c : ℕ) → legal d p c ≡ true → Reaches d (after_card d p c) cs q → Front p (c ∷ cs) q

  pub front : {p : Play} {cs : List ℕ} {q : Play} → Reaches d p cs q → Front p cs q
  front start = here
  front (next c r h) = further (front r) c h
    where
      further : {p : Play} {cs : List ℕ} {q : Play} → Front p cs q → (c : ℕ) → legal d q c ≡ true → Front p (cs ++ (c ∷ [])) (after_card d q c)
      further here c h = there c h start
      further (there x k r) c h = there x k (next c r h)

  pub reaches_cons : {p : Play} (c : ℕ) → legal d p c ≡ true → {cs : List ℕ} {q : Play} → Reaches d (after_card d p c) cs q → Reaches d p (c ∷ cs) q
  reaches_cons c h start = next c start h
  reaches_cons c h (next x r k) = next x (reaches_cons c h r) k

  pub data First (f : Plan d) (l : Layout) (p : Play) : List ℕ → Play → Type 0 where
    none_yet : First f l p [] p
    ours_first : {cs : List ℕ} {q : Play} → 0 < ones p.unplayed → side d p ≡ Max
        → Way d (λ xs. f (f [] ∷ xs)) l (after_card d p (f [])) cs q → First f l p (f [] ∷ cs) q
    theirs_first : {cs : List ℕ} {q : Play} (c : ℕ) → 0 < ones p.unplayed → side d p ≡ Min → legal_in d p l c ≡ true
        → Way d (λ xs. f (c ∷ xs)) l (after_card d p c) cs q → First f l p (c ∷ cs) q

  pub first_of : {f : Plan d} {l : Layout} {p : Play} {cs : List ℕ} {q : Play} → Way d f l p cs q → First f l p cs q
  first_of start = none_yet
  first_of (ours w o m) = further (first_of w) o m
    where
      further : {f : Plan d} {l : Layout} {p : Play} {cs : List ℕ} {q : Play} → First f l p cs q → 0 < ones q.unplayed → side d q ≡ Max
          → First f l p (cs ++ (f cs ∷ [])) (after_card d q (f cs))
      further none_yet o m = ours_first o m start
      further (ours_first a b w) o m = ours_first a b (ours w o m)
      further (theirs_first c a b k w) o m = theirs_first c a b k (ours w o m)
  first_of (theirs c w o m k) = further (first_of w) c o m k
    where
      further : {f : Plan d} {l : Layout} {p : Play} {cs : List ℕ} {q : Play} → First f l p cs q → (c : ℕ) → 0 < ones q.unplayed → side d q ≡ Min
          → legal_in d q l c ≡ true → First f l p (cs ++ (c ∷ [])) (after_card d q c)
      further none_yet c o m k = theirs_first c o m k start
      further (ours_first a b w) c o m k = ours_first a b (theirs c w o m k)
      further (theirs_first x a b j w) c o m k = theirs_first x a b j (theirs c w o m k)

  pub way_cons : {f : Plan d} {l : Layout} {p : Play} (c : ℕ) → Way d f l p (c ∷ []) (after_card d p c) → {cs : List ℕ} {q : Play}
      → Way d (λ xs. f (c ∷ xs)) l (after_card d p c) cs q → Way d f l p (c ∷ cs) q
  way_cons c b start = b
  way_cons c b (ours w o m) = ours (way_cons c b w) o m
  way_cons c b (theirs x w o m k) = theirs x (way_cons c b w) o m k

  -- from a position that is over no way leads on
  pub ended : {f : Plan d} {l : Layout} {p : Play} {cs : List ℕ} {q : Play} → Way d f l p cs q → ones p.unplayed ≡ 0 → q ≡ p
  ended start z = refl
  ended (ours w o m) z = let e = ap (λ (x : Play). ones x.unplayed) (ended w z) in absurd (omega arith)
  ended (theirs c w o m k) z = let e = ap (λ (x : Play). ones x.unplayed) (ended w z) in absurd (omega arith)

  -- ---- the default plan: the lowest legal card

  abbrev replay : Play → List ℕ → Play
  replay p [] = p
  replay p (c ∷ cs) = replay (after_card d p c) cs

  replay_last : (p : Play) (cs : List ℕ) (c : ℕ) → replay p (cs ++ (c ∷ [])) ≡ after_card d (replay p cs) c
  replay_last p [] c = refl
  replay_last p (x ∷ cs) c = replay_last (after_card d p x) cs c

  replayed : {p : Play} {cs : List ℕ} {q : Play} → Reaches d p cs q → replay p cs ≡ q
  replayed start = refl
  replayed {p} (next {cs} c r h) = replay_last p cs c ∙ ap (λ (x : Play). after_card d x c) (replayed r)

  abbrev first_card : List ℕ → ℕ
  first_card [] = 0
  first_card (c ∷ cs) = c

  first_in : (cs : List ℕ) (c : ℕ) → In c cs → In (first_card cs) cs
  first_in [] c i = i
  first_in (x ∷ cs) c i = inl refl

  abbrev pub lowest : Play → Plan d
  lowest p cs = first_card (legal_cards d (replay p cs))

  module _ (v : ValidDeal d) where
    lowest_legal : (q : Play) → Good d q → 0 < ones q.unplayed → legal d q (first_card (legal_cards d q)) ≡ true
    lowest_legal q g o =
        let s = some_card d q g o in
        cards_legal d q (first_card (legal_cards d q))
        (first_in (legal_cards d q) s.0 (legal_card d q s.0 s.1 (card_small d q s.0 v g s.1)))

    pub lowest_chooses : (p : Play) → Good d p → Chooses d (lowest p) p
    lowest_chooses p g cs q r o m =
        subst (λ (x : Play). legal d q (first_card (legal_cards d x)) ≡ true) (sym (replayed r)) (lowest_legal q (good_reaches d v g r) o)
