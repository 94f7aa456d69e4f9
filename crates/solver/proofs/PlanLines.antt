-- Where the calls on an analyst of plan games lead: to positions of a valid deal's play.
use Rattle.std.proofs.Common.{◌≡◌, ℕ, ◌<◌, Bool, true, cond, List, [], ◌∷◌, length, get_or, sym, refl, ap, ◌∙◌, subst}
use Rattle.std.proofs.lemmas.Bool.{ltb-true}
use Rattle.lattice.specs.declared.family.Family.{Family}
use Rattle.games.specs.Trees.{Line, can_play, after_play, after_take_back}
use Rattle.lines.specs.declared.deal.Target.{Target}
use Rattle.cardplay.specs.Cards.{Dealt, Play, legal_cards}
use Rattle.cardplay.specs.Deals.{ValidDeal, Played}
use Rattle.cardplay.proofs.CardLaws.{played_reached}
use Rattle.deals.specs.declared.card_game.CardGame.{CardGame}
use Rattle.deals.specs.Dealing.{dealt_of}
use Rattle.deals.specs.PlanGames.{plan_line}
use Rattle.deals.specs.Scores.{sets_made}
use Rattle.deals.specs.Stands.{Stand, stand_of, choices, can_go_on, after_legal, after_place, line_of}
use Rattle.deals.specs.States.{play_of}
use Rattle.deals.proofs.Choices.{legal_at}
use Rattle.deals.specs.CoursesLemmas.{valid}
use Rattle.deals.proofs.Lines.{line_told, line_goes}
use Rattle.deals.specs.Whole.{whole_deal, whole_course}
use Rattle.analyst.specs.Histories.{child_first}
use Rattle.solver.specs.PlanCalls.{PlanPosition}

-- the line of a plan game's play
pub record Planned (l : Line Family) : Type 0 where
  pub stand : Stand
  pub target : ℕ
  pub is : l ≡ line_of (sets_made target) stand
  pub deal : ValidDeal stand.deal
  pub played : Played stand.deal stand.present stand.earlier

pub planned_game : (g : CardGame Target) → Planned (plan_line g)
planned_game g =
    let d = dealt_of g.course.problem in
    record {
      stand = stand_of g.course;
      target = g.aim.0;
      is = refl;
      deal = whole_deal d (valid g.course.problem);
      played = whole_course d (play_of g.course.present) g.course.past g.course.legal;
    }

pub planned_position : (l : Line Family) (y : Planned l) → PlanPosition l.present y.stand y.target
planned_position l y = record {
  is = ap (λ (m : Line Family). m.present) y.is;
  valid = y.deal;
  reached = played_reached y.stand.deal y.stand.present y.stand.earlier y.played;
}

-- a play leads to a line of play
after_child : (l : Line Family) (n : ℕ) → can_play l n ≡ true → after_play l n ≡ child_first l n
after_child l n e = ap (λ (b : Bool). cond b (child_first l n) l) e

gone_on : (s : Stand) (n : ℕ) → can_go_on s n ≡ true → after_place s n ≡ after_legal s (get_or (choices s) n 0)
gone_on s n e = ap (λ (b : Bool). cond b (after_legal s (get_or (choices s) n 0)) s) e

pub planned_play : (l : Line Family) (n : ℕ) → can_play l n ≡ true → Planned l → Planned (child_first l n)
planned_play l n e y =
    let s = y.stand in
    let score = sets_made y.target in
    let c : ℕ = get_or (choices s) n 0 in
    let told : can_go_on s n ≡ true = line_told score s n ∙ sym (ap (λ (m : Line Family). can_play m n) y.is) ∙ e in
    let there : n < length (legal_cards s.deal s.present) = ltb-true n _ told in
    record {
      stand = after_legal s c;
      target = y.target;
      is = sym (after_child l n e) ∙ ap (λ (m : Line Family). after_play m n) y.is ∙ sym (line_goes score s n) ∙ ap (line_of score) (gone_on s n told);
      deal = y.deal;
      played = ((c, legal_at s.deal s.present n c there refl, refl), y.played);
    }

-- and so does taking back
back_of : (d : Dealt) (t : ℕ) (p : Play) (qs : List Play) → ValidDeal d → Played d p qs
    → Planned (after_take_back (line_of (sets_made t) (record { deal = d; present = p; earlier = qs })))
back_of d t p [] v r = record { stand = record { deal = d; present = p; earlier = [] }; target = t; is = refl; deal = v; played = r }
back_of d t p (q ∷ qs) v r = record { stand = record { deal = d; present = q; earlier = qs }; target = t; is = refl; deal = v; played = r.1 }

pub planned_back : (l : Line Family) → Planned l → Planned (after_take_back l)
planned_back l y =
    subst (λ (m : Line Family). Planned (after_take_back m)) (sym y.is)
    (back_of y.stand.deal y.target y.stand.present y.stand.earlier y.deal y.played)
