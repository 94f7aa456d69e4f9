-- The cards of a trick in play are distinct, because each was unplayed until it was put to the trick; so the winner found wins by the rules.
use Rattle.std.proofs.Common.{◌≡◌, ℕ, ◌-◌, ◌^◌, ◌<◌, ◌≤◌, true, false, eqb, ◌⊎◌, List, [], ◌∷◌, ◌++◌, length, sym, refl, ap, ◌∙◌, inl, inr, arith}
use Rattle.std.proofs.lemmas.List.{length_push, get_or_push, get_or_append_left}
use Rattle.std.proofs.lemmas.Bool.{both_ways, cases_lt, cond_both}
use Rattle.bitsets.specs.Sets.{has}
use Rattle.bitsets.proofs.Digits.{sub_part, sub_has_not, test_false}
use Rattle.cardplay.specs.Cards.{Dealt, Play, legal, closes, goes_on, after_card}
use Rattle.cardplay.specs.Plans.{Reaches, start, next}
use Rattle.cardplay.specs.Deals.{first_play}
use Rattle.cardplay.specs.Winning.{card_at, Distinct, TrickTheorem}
use Rattle.cardplay.proofs.Reach.{legal_unplayed}
use Rattle.cardplay.proofs.Winning.{winner_theorem}

-- the cards of the trick t are distinct, and none of them is among the unplayed cards u
record Laid (u : ℕ) (t : List ℕ) : Type 0 where
  out : (j : ℕ) → j < length t → has u (card_at t j) ≡ false
  distinct : Distinct t

module _ (u c : ℕ) (t : List ℕ) (h : Laid u t) (unplayed : has u c ≡ true) where
  at_last : card_at (t ++ (c ∷ [])) (length t) ≡ c
  at_last = get_or_push t c 0 (length t) refl

  before : (j : ℕ) → j < length t → card_at (t ++ (c ∷ [])) j ≡ card_at t j
  before j l = get_or_append_left t (c ∷ []) 0 j l

  place : (j : ℕ) → j < length (t ++ (c ∷ [])) → (j < length t) ⊎ (j ≡ length t)
  place j l = by (cases_lt j (length t))
    where
      by : (j < length t) ⊎ (length t ≤ j) → (j < length t) ⊎ (j ≡ length t)
      by (inl m) = inl m
      by (inr m) = let e = length_push t c in inr (omega arith)

  new : (j : ℕ) → j < length t → card_at t j ≡ c → ⊥
  new j l e = both_ways (has u c) (ap (has u) (sym e) ∙ h.out j l) unplayed

  distinct_more : Distinct (t ++ (c ∷ []))
  distinct_more i j l m e = by (place i l) (place j m)
    where
      by : (i < length t) ⊎ (i ≡ length t) → (j < length t) ⊎ (j ≡ length t) → i ≡ j
      by (inl a) (inl b) = h.distinct i j a b (sym (before i a) ∙ e ∙ before j b)
      by (inl a) (inr b) = absurd (new i a (sym (before i a) ∙ e ∙ ap (card_at (t ++ (c ∷ []))) b ∙ at_last))
      by (inr a) (inl b) = absurd (new j b (sym (before j b) ∙ sym e ∙ ap (card_at (t ++ (c ∷ []))) a ∙ at_last))
      by (inr a) (inr b) = a ∙ sym b

  out_more : (j : ℕ) → j < length (t ++ (c ∷ [])) → has (u - 2 ^ c) (card_at (t ++ (c ∷ [])) j) ≡ false
  out_more j l = by (place j l)
    where
      by : (j < length t) ⊎ (j ≡ length t) → has (u - 2 ^ c) (card_at (t ++ (c ∷ [])) j) ≡ false
      by (inl a) =
          ap (has (u - 2 ^ c)) (before j a)
          ∙ test_false (has (u - 2 ^ c) (card_at t j)) (λ b. both_ways (has u (card_at t j)) (h.out j a) (sub_part u c unplayed (card_at t j) b))
      by (inr a) = ap (has (u - 2 ^ c)) (ap (card_at (t ++ (c ∷ []))) a ∙ at_last) ∙ sub_has_not u c unplayed

none_laid : (u : ℕ) → Laid u []
none_laid u = record { out = λ j l. absurd (omega arith); distinct = λ i j l. absurd (omega arith) }

laid_after : (d : Dealt) (p : Play) (c : ℕ) → Laid p.unplayed p.trick → legal d p c ≡ true → Laid (after_card d p c).unplayed (after_card d p c).trick
laid_after d p c h l =
    let m = legal_unplayed d p c l in
    cond_both (eqb (length p.trick) 3) (closes d p c) (goes_on d p c) (λ (q : Play). Laid q.unplayed q.trick)
    (λ e. none_laid (p.unplayed - 2 ^ c))
    (λ e. record { out = out_more p.unplayed c p.trick h m; distinct = distinct_more p.unplayed c p.trick h m })

laid_reached : (d : Dealt) {cs : List ℕ} {p : Play} → Reaches d (first_play d) cs p → Laid p.unplayed p.trick
laid_reached d start = none_laid (first_play d).unplayed
laid_reached d (next {q = q} c r h) = laid_after d q c (laid_reached d r) h

-- every trick in play goes to the card that wins it by the rules
pub trick_theorem : TrickTheorem
trick_theorem d p r c h =
    winner_theorem d (p.trick ++ (c ∷ [])) (let e = length_push p.trick c in omega arith)
    (distinct_more p.unplayed c p.trick (laid_reached d r.1) (legal_unplayed d p c h))
