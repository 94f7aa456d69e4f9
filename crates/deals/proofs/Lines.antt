-- The line of positions of a card game, by where its course of play stands.
use Rattle.std.proofs.Common.{◌≡◌, ℕ, zero, suc, ◌<◌, Bool, true, false, cond, eqb, ltb, List, [], ◌∷◌, map, length, get_or, Some, None, Option, sym, refl, ap, ◌∙◌, subst, arith, count_ones}
use Rattle.std.proofs.lemmas.Bool.{ltb-true, ne_eqb}
use Rattle.bitsets.proofs.Digits.{ones_zero, ones_none}
use Rattle.games.specs.Trees.{Tree, Line, key_of, height_of, side_of, score_of, children_of, count, place_or, child, can_play, after_play}
use Rattle.cardplay.specs.Cards.{Dealt, Play, legal_cards, after_card, card_key, side, grown, tree, position}
use Rattle.cardplay.proofs.Reach.{legal_open, after_ones}
use Rattle.deals.specs.Stands.{Stand, choices, after_legal, can_go_on, after_place, line_of}
use Rattle.deals.proofs.Choices.{legal_at}

-- no card is left, or some are
by_height : (x : ℕ) (P : Bool → ℕ → Type 0) → P true 0 → ((n : ℕ) → P false (suc n)) → P (eqb x 0) (count_ones x)
by_height zero P z s = subst (P true) (sym ones_zero) z
by_height (suc x) P z s = subst (λ (b : Bool). P b (count_ones (suc x))) (sym (ne_eqb (suc x) 0 (omega arith))) (go (count_ones (suc x)) refl)
  where
    go : (n : ℕ) → count_ones (suc x) ≡ n → P false n
    go zero e = let h = ones_none (suc x) e in absurd (omega arith)
    go (suc n) e = s n

module _ {S : Type 0} (score : Play → S) (d : Dealt) where
  module _ (p : Play) where
    pub line_side : cond (eqb p.unplayed 0) None (Some (side d p)) ≡ side_of (position d score p)
    line_side = by_height p.unplayed (λ b n. cond b None (Some (side d p)) ≡ side_of (tree d score n p)) refl (λ n. refl)

    line_score : cond (eqb p.unplayed 0) (Some (score p)) None ≡ score_of (position d score p)
    line_score = by_height p.unplayed (λ b n. cond b (Some (score p)) None ≡ score_of (tree d score n p)) refl (λ n. refl)

    -- the score where all cards are played, and none before
    pub line_over : (r : Option S) → true ≡ eqb p.unplayed 0 → r ≡ Some (score p) → r ≡ score_of (position d score p)
    line_over r e f = f ∙ ap (λ (b : Bool). cond b (Some (score p)) None) e ∙ line_score

    pub line_on : false ≡ eqb p.unplayed 0 → None ≡ score_of (position d score p)
    line_on e = ap (λ (b : Bool). cond b (Some (score p)) None) e ∙ line_score

    pub line_key : card_key d p ≡ key_of (position d score p)
    line_key = by_height p.unplayed (λ b n. card_key d p ≡ key_of (tree d score n p)) refl (λ n. refl)

    pub line_height : count_ones p.unplayed ≡ height_of (position d score p)
    line_height = by_height p.unplayed (λ b n. n ≡ height_of (tree d score n p)) refl (λ n. refl)

  grown_count : (f : ℕ → Tree S) (cs : List ℕ) → length cs ≡ count (grown d score f cs)
  grown_count f [] = refl
  grown_count f (c ∷ cs) = ap suc (grown_count f cs)

  grown_at : (f : ℕ → Tree S) (t : Tree S) (cs : List ℕ) (n : ℕ) → n < length cs → place_or t (grown d score f cs) n ≡ f (get_or cs n 0)
  grown_at f t [] n l = absurd (omega arith)
  grown_at f t (c ∷ cs) zero l = refl
  grown_at f t (c ∷ cs) (suc n) l = grown_at f t cs n (omega arith)

  module _ (p : Play) where
    -- while a card is legal, some are left
    some_left : (n : ℕ) → n < length (legal_cards d p) → 0 < count_ones p.unplayed
    some_left n l = legal_open d p (get_or (legal_cards d p) n 0) (legal_at d p n (get_or (legal_cards d p) n 0) l refl)

    pub line_children : length (legal_cards d p) ≡ count (children_of (position d score p))
    line_children = go (count_ones p.unplayed) refl
      where
        none : (m : ℕ) → length (legal_cards d p) ≡ m → count_ones p.unplayed ≡ 0 → m ≡ 0
        none zero e z = refl
        none (suc m) e z = let o = some_left 0 (omega arith) in absurd (omega arith)

        go : (n : ℕ) → count_ones p.unplayed ≡ n → length (legal_cards d p) ≡ count (children_of (tree d score n p))
        go zero e = none (length (legal_cards d p)) refl e
        go (suc n) e = grown_count (λ c. tree d score n (after_card d p c)) (legal_cards d p)

    -- the child at a place is the position after the card at that place
    line_child : (n : ℕ) → n < length (legal_cards d p) → position d score (after_card d p (get_or (legal_cards d p) n 0)) ≡ child (position d score p) n
    line_child n l = go (count_ones p.unplayed) refl
      where
        go : (m : ℕ) → count_ones p.unplayed ≡ m → position d score (after_card d p (get_or (legal_cards d p) n 0)) ≡ child (tree d score m p) n
        go zero e = let o = some_left n l in absurd (omega arith)
        go (suc m) e =
            ap (λ (k : ℕ). tree d score k (after_card d p (get_or (legal_cards d p) n 0)))
            (after_ones d p (get_or (legal_cards d p) n 0) m (legal_at d p n (get_or (legal_cards d p) n 0) l refl) e)
            ∙ sym (grown_at (λ c. tree d score m (after_card d p c)) (tree d score (suc m) p) (legal_cards d p) n l)

module _ {S : Type 0} (score : Play → S) (s : Stand) (n : ℕ) where
  pub line_told : can_go_on s n ≡ can_play (line_of score s) n
  line_told = ap (ltb n) (line_children score s.deal s.present)

  pub line_goes : line_of score (after_place s n) ≡ after_play (line_of score s) n
  line_goes = go (can_go_on s n) refl ∙ ap (λ (b : Bool). cond b on (line_of score s)) line_told
    where
      on : Line S
      on = record { present = child (position s.deal score s.present) n; earlier = position s.deal score s.present ∷ map (position s.deal score) s.earlier }

      go : (b : Bool) → can_go_on s n ≡ b → line_of score (cond b (after_legal s (get_or (choices s) n 0)) s) ≡ cond b on (line_of score s)
      go true e =
          let c = line_child score s.deal s.present n (ltb-true n (length (choices s)) e) in
          λ i. record { present = c i; earlier = position s.deal score s.present ∷ map (position s.deal score) s.earlier }
      go false e = refl
