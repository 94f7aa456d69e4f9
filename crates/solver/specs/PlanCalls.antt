-- What the value of a search of the plan game says of plans, after any sequence of calls.
use Rattle.std.specs.Prelude.{◌≡◌, ℕ, Some, Ok}
use Rattle.lattice.specs.declared.family.Family.{Family}
use Rattle.lattice.specs.Windows.{whole}
use Rattle.lattice.specs.FamilyScores.{FamilyScore, family_scoring, family_of}
use Rattle.games.specs.Trees.{Tree}
use Rattle.tables.specs.Tables.{TableOps}
use Rattle.policies.specs.Policies.{PolicyOps}
use Rattle.cardplay.specs.Cards.{position}
use Rattle.cardplay.specs.Deals.{ValidDeal, Reached}
use Rattle.deals.specs.PlanGames.{plan_line}
use Rattle.deals.specs.Plans.{Beaten}
use Rattle.deals.specs.Scores.{sets_made}
use Rattle.deals.specs.Stands.{Stand}
use Rattle.analyst.specs.Calls.{Stack, AfterEnd, ends}
use Rattle.analyst.specs.Histories.{Account, Standing, account_at, Own, History}

-- t is the position of the state of play s in the plan game with this target, and legal cards of a valid deal led to s
pub record PlanPosition (t : Tree Family) (s : Stand) (target : ℕ) : Type 0 where
  pub is : t ≡ position s.deal (sets_made target) s.present
  pub valid : ValidDeal s.deal
  pub reached : Reached s.deal s.present

-- v holds a set of layouts exactly when one plan from the position t makes the target in each of them
pub record PlanRight (t : Tree Family) (v : FamilyScore) : Type 0 where
  pub stand : Stand
  pub target : ℕ
  pub at : PlanPosition t stand target
  pub beaten : Beaten stand target v

-- after any sequence of calls on an analyst of plan games, with any table and any policy: where an end of a search with
-- the whole window answers a value, it is right for the position where that search began
abbrev pub PlanPromise : {M P : Type 0} → TableOps M → PolicyOps P → Type 0
PlanPromise {M = M} {P = P} tb ch =
    (x : Standing Family FamilyScore M P) → History plan_line family_scoring family_of tb ch x
    → (j : ℕ) (k : Stack FamilyScore) → Own x k
    → (y : AfterEnd Family FamilyScore M P) → ends family_scoring x.state j k ≡ Ok y
    → (v : FamilyScore) → y.answer.value ≡ Some v
    → (c : Account Family FamilyScore) → account_at x ≡ Some c → c.window ≡ whole family_scoring
    → PlanRight c.position v
