-- What the answers of accepted lines say: the search is never refused, and what it finds is right.
use Rattle.std.proofs.Common.{◌≡◌, ℕ, ◌<◌, ◌≤◌, Bool, true, false, cond, ltb, List, [], replicate, Some, None, Ok, Err, Option, Result, sym, refl, ◌∙◌, subst, arith}
use lib.Count.{ones, ones-le}
use Rattle.std.proofs.lemmas.Bool.{lt-ltb}
use Rattle.lattice.specs.FamilyScores.{family_scoring, family_of}
use Rattle.lattice.specs.Scores.{Scoring, Laws}
use Rattle.lattice.specs.TrickScores.{trick_scoring, tricks_of}
use Rattle.lattice.specs.FamilyLaws.{family_laws}
use Rattle.lattice.specs.TrickLaws.{trick_laws}
use Rattle.games.specs.Trees.{height_of}
use Rattle.tables.specs.Laws.{place_laws, layered_laws}
use Rattle.tables.specs.Places.{place_ops}
use Rattle.policies.specs.Laws.{highest_laws, recent_laws}
use Rattle.policies.specs.Policies.{highest_ops}
use Rattle.lines.specs.declared.fault.Fault.{Fault}
use Rattle.lines.specs.Deals.{Asked, tricks, plan, Deal, Valid}
use Rattle.lines.specs.Reading.{read_line}
use Rattle.lines.proofs.Format.{format}
use Rattle.cardplay.specs.Cards.{Dealt, Play, position}
use Rattle.cardplay.specs.Deals.{ValidDeal, first_play}
use Rattle.cardplay.specs.Dealing.{dealt}
use Rattle.cardplay.specs.Plans.{start}
use Rattle.cardplay.proofs.CardLaws.{card_lawful}
use Rattle.cardplay.proofs.Dealing.{valid_dealt}
use Rattle.cardplay.proofs.OnePlan.{plan_theorem}
use Rattle.cardplay.proofs.Reach.{good_first}
use Rattle.deals.specs.Plans.{Beaten}
use Rattle.deals.specs.Scores.{tricks_won, sets_made}
use Rattle.deals.specs.Stands.{first_stand, line_of}
use Rattle.deals.proofs.Lines.{line_height}
use Rattle.deals.proofs.Values.{plan_value}
use Rattle.std.proofs.lemmas.Option.{none-some}
use Rattle.analyst.proofs.Results.{some_same}
use Rattle.solver.specs.declared.once.Solved.{Solved}
use Rattle.solver.specs.Solving.{is_finished, finds, SolvedRight}
use Rattle.solver.proofs.Right.{finds_ends, finds_right}
use Rattle.findings.specs.Right.{TricksRight, PlanRight, DealRight, AnswerRight}
use Rattle.findings.specs.Searched.{granted, table_ops, policy_ops, table_over, new_policy, searched, searched_to_end}

-- no deal has more than 52 cards, and the stack has 65 places
first_low : {S : Type 0} (score : Play → S) (d : Dealt) → ValidDeal d → height_of (position d score (first_play d)) < 65
first_low score d v =
    let few : ones (first_play d).unplayed ≤ 52 = ones-le 52 (first_play d).unplayed (good_first d v).small in
    let e = line_height score d (first_play d) in
    omega arith

-- accepted where both tests say yes
asked_yes : {A E : Type 0} (s t : Bool) (x y : E) (a : A) → s ≡ true → t ≡ true → cond s (cond t (Ok a) (Err y)) (Err x) ≡ Ok a
asked_yes true true x y a e f = refl
asked_yes true false x y a e f = cc
asked_yes false t x y a e f = cc

module _ {S C : Type 0} (o : Scoring C) (st : S → C) (law : Laws o) (score : Play → S) (d : Dealt) (v : ValidDeal d) (n : ℕ) (some : 0 < n) (steps : ℕ) where
  abbrev all : Solved C
  all = finds o st table_ops policy_ops (line_of score (first_stand d)) (table_over (replicate 61 None)) new_policy 65 steps

  found_is : searched o st (line_of score (first_stand d)) n steps ≡ Ok all
  found_is = asked_yes (ltb 0 n) (ltb (height_of (position d score (first_play d))) 65) _ _ all (lt-ltb 0 n some) (lt-ltb _ 65 (first_low score d v))

  found_ends : is_finished all ≡ searched_to_end o st (line_of score (first_stand d)) steps
  found_ends =
      finds_ends o st table_ops policy_ops (line_of score (first_stand d)) (table_over (replicate 61 None)) new_policy 65 steps

  found_right : SolvedRight o st (position d score (first_play d)) steps all
  found_right =
      finds_right o st table_ops policy_ops law (layered_laws place_ops place_ops place_laws place_laws) (recent_laws highest_ops highest_laws)
      (line_of score (first_stand d)) (table_over (replicate 61 None)) new_policy 65 steps
      (card_lawful v score (first_play d) [] refl) (first_low score d v)

-- an answer with a value has it from the condition
had : {C : Type 0} (b : Bool) (u v : C) → ◌≡◌ {A = Option C} (cond b (Some u) None) (Some v) → u ≡ v
had true u v e = some_same e
had false u v e = absurd (none-some v e)

tricks_right : (n : ℕ) → 0 < n → (d : Deal) → Valid d → TricksRight n d
tricks_right n some d v = record {
  found = all trick_scoring tricks_of trick_laws tricks_won (dealt d) (valid_dealt d v) n some granted;
  is = found_is trick_scoring tricks_of trick_laws tricks_won (dealt d) (valid_dealt d v) n some granted;
  ends = found_ends trick_scoring tricks_of trick_laws tricks_won (dealt d) (valid_dealt d v) n some granted;
  right = found_right trick_scoring tricks_of trick_laws tricks_won (dealt d) (valid_dealt d v) n some granted;
}

plan_right : (n : ℕ) → 0 < n → (t : ℕ) (d : Deal) → Valid d → PlanRight n t d
plan_right n some t d v =
    let r = found_right family_scoring family_of family_laws (sets_made t) (dealt d) (valid_dealt d v) n some granted in
    let p = first_play (dealt d) in
    record {
      found = all family_scoring family_of family_laws (sets_made t) (dealt d) (valid_dealt d v) n some granted;
      is = found_is family_scoring family_of family_laws (sets_made t) (dealt d) (valid_dealt d v) n some granted;
      ends = found_ends family_scoring family_of family_laws (sets_made t) (dealt d) (valid_dealt d v) n some granted;
      right = r;
      plans = λ f e.
          subst (Beaten (first_stand (dealt d)) t) (sym (plan_value (dealt d) t p) ∙ had _ _ f (sym r.value ∙ e))
          (plan_theorem (dealt d) (valid_dealt d v) t p ([], start));
    }

answer_by : (n : ℕ) (r : Result Deal Fault) → ((d : Deal) → r ≡ Ok d → Valid d) → AnswerRight n r
answer_by n (Err f) v = tt
answer_by n (Ok d) v = λ some. asked d.asked some
  where
    asked : (a : Asked) → 0 < n → DealRight n a d
    asked tricks some = tricks_right n some d (v d refl)
    asked (plan t) some = plan_right n some t d (v d refl)

pub answer_right : (n : ℕ) (line : List ℕ) → AnswerRight n (read_line line)
answer_right n line = answer_by n (read_line line) (λ d e. ((format line d).0 e).0)
