-- What the course of play keeps: the states before the present one, and what legal cards make of it.
use Rattle.std.specs.Prelude.{◌≡◌, ℕ, ◌+◌, ◌-◌, ◌<◌, ◌≤◌, true, List, [], ◌∷◌, length, count_ones}
use Rattle.std.proofs.Common.{sym, ap, ◌∙◌, subst, arith}
use Rattle.std.proofs.Math.Logic.{∥∥₁_elim, ∥∥₁_map}
use Rattle.std.proofs.Math.Bridge.{le_prop}
use Rattle.std.proofs.lemmas.Nat.{ones-le}
use Rattle.lines.specs.declared.problem.Problem.{Problem}
use Rattle.lines.specs.Told.{deal_of}
use Rattle.cardplay.specs.Cards.{Dealt, Play, legal, after_card}
use Rattle.cardplay.specs.Deals.{ValidDeal, first_play, Played}
use Rattle.cardplay.proofs.CardLaws.{played_reached, won_few}
use Rattle.cardplay.proofs.Dealing.{valid_dealt}
use Rattle.cardplay.proofs.Reach.{Good, good_first, good_reached, live_small, legal_open, after_ones}
use Rattle.deals.specs.declared.course.Course.{Course}
use Rattle.deals.specs.Dealing.{dealt_of}
use Rattle.deals.specs.Stands.{stand_of, can_choose}
use Rattle.deals.specs.States.{play_of}

-- ---- a problem's deal is valid

pub valid : (p : Problem) → ∥ ValidDeal (dealt_of p) ∥₁
valid p = ∥∥₁_map p.valid (valid_dealt (deal_of p))

-- ---- a course of legal cards

good : (d : Dealt) → ValidDeal d → (p : Play) (qs : List Play) → Played d p qs → Good d p
good d v p qs r = good_reached d v p (played_reached d p qs r)

module _ (s : Course) where
  pub course_won : s.present.won ≤ 13
  course_won =
      ∥∥₁_elim (valid s.problem) le_prop
      (λ v. ∥∥₁_elim s.legal le_prop (λ r. won_few (dealt_of s.problem) (play_of s.present) (good (dealt_of s.problem) v (play_of s.present) s.past r)))

  pub course_live : s.present.live.0 < 64
  course_live =
      ∥∥₁_elim (valid s.problem) le_prop
      (λ v. ∥∥₁_elim s.legal le_prop (λ r. live_small (dealt_of s.problem) v (play_of s.present) (good (dealt_of s.problem) v (play_of s.present) s.past r)))

-- every card is played or not
all_cards : (d : Dealt) (p : Play) (qs : List Play) → Played d p qs → length qs + count_ones p.unplayed ≡ count_ones (first_play d).unplayed
all_cards d p [] e = let f = ap (λ (q : Play). count_ones q.unplayed) e in omega arith
all_cards d p (q ∷ qs) ((c, h, e), r) =
    let ih = all_cards d q qs r in
    let o = legal_open d q c h in
    let f = ap (λ (q : Play). count_ones q.unplayed) e ∙ after_ones d q c (count_ones q.unplayed - 1) h (omega arith) in
    omega arith

-- so that there is a place for one more while a card is legal
room : (d : Dealt) → ∥ ValidDeal d ∥₁ → (p : Play) (qs : List Play) → ∥ Played d p qs ∥₁ → (c : ℕ) → legal d p c ≡ true → length qs < 52
room d v p qs r c h =
    let o = legal_open d p c h in
    ∥∥₁_elim v le_prop (λ v. ∥∥₁_elim r le_prop (λ r.
    let e = all_cards d p qs r in
    let l = ones-le 52 (first_play d).unplayed (good_first d v).small in
    omega arith))

pub free : (s : Course) (c : ℕ) → can_choose (stand_of s) c ≡ true → length s.past < 52
free s c h =
    room (dealt_of s.problem) (valid s.problem) (play_of s.present) s.past s.legal c h

-- a legal card goes on
pub goes_on_legal : (d : Dealt) (p q : Play) (qs rs : List Play) (c : ℕ) → legal d p c ≡ true → q ≡ after_card d p c → rs ≡ p ∷ qs
    → ∥ Played d p qs ∥₁ → ∥ Played d q rs ∥₁
goes_on_legal d p q qs rs c h e f r = ∥∥₁_map r (λ r. subst (Played d q) (sym f) ((c, h, e), r))

-- and is taken back
pub goes_back : (d : Dealt) (p q : Play) (qs rs : List Play) → rs ≡ q ∷ qs → ∥ Played d p rs ∥₁ → ∥ Played d q qs ∥₁
goes_back d p q qs rs f r = ∥∥₁_map r (λ r. (subst (Played d p) f r).1)
