-- The value of a plan game after any sequence of calls.
use Rattle.std.proofs.Common.{◌≡◌, ℕ, Bool, true, false, cond, Some, None, Ok, Option, Result, sym, refl, ap, ◌∙◌, subst}
use Rattle.lattice.specs.declared.bracket.Bracket.{Bracket}
use Rattle.lattice.specs.declared.family.Family.{Family}
use Rattle.lattice.specs.FamilyScores.{FamilyScore, family_scoring, family_of}
use Rattle.lattice.specs.Windows.{clamped}
use Rattle.lattice.specs.FamilyLaws.{family_laws}
use Rattle.games.specs.Trees.{Tree, Line, Lawful, plain, can_play}
use Rattle.tables.specs.Tables.{TableOps, TableLaws}
use Rattle.policies.specs.Policies.{PolicyOps, PolicyLaws}
use Rattle.lines.specs.declared.deal.Target.{Target}
use Rattle.cardplay.specs.Cards.{position}
use Rattle.cardplay.specs.PlanScores.{plan_family}
use Rattle.cardplay.proofs.OnePlan.{plan_theorem}
use Rattle.deals.specs.declared.card_game.CardGame.{CardGame}
use Rattle.deals.specs.Plans.{Beaten}
use Rattle.deals.specs.Scores.{sets_made}
use Rattle.deals.specs.Games.{game_lawful}
use Rattle.deals.specs.PlanGames.{plan_line}
use Rattle.deals.proofs.Values.{plan_value}
use Rattle.analyst.specs.declared.ended.Ran.{Ran}
use Rattle.analyst.specs.declared.refusal.Refusal.{Refusal}
use Rattle.analyst.specs.Calls.{loads, plays, takes_back, begins, runs, ends, none_open}
use Rattle.analyst.specs.Histories.{Account, some_with_run, Standing, line_at, account_at, told, History, made, load, play, take_back, begin, run, end, clear}
use Rattle.std.proofs.lemmas.Option.{none-some}
use Rattle.analyst.proofs.Results.{by_result, yes_first, some_same}
use Rattle.analyst.proofs.Resting.{at_rest}
use Rattle.analyst.proofs.Sequences.{sound, promised}
use Rattle.solver.specs.PlanCalls.{PlanPromise}
use Rattle.solver.proofs.PlanLines.{Planned, planned_game, planned_position, planned_play, planned_back}
use Rattle.solver.proofs.Right.{clamped_whole}

-- the position of an account is one of a plan game's play
pub record Stood (t : Tree Family) : Type 0 where
  pub line : Line Family
  pub is : line.present ≡ t
  pub planned : Planned line

abbrev pub Accounted : Option (Account Family FamilyScore) → Type 0
Accounted None = Unit {0}
Accounted (Some c) = Stood c.position

-- a run leaves it
more_run : (n : ℕ) (r : Ran) (e : ℕ) (v : Option (Account Family FamilyScore)) → Accounted v → Accounted (some_with_run n r e v)
more_run n r e None a = tt
more_run n r e (Some c) a = a

-- an answer with a value has it from the condition
had : {C : Type 0} (b : Bool) (u v : C) → ◌≡◌ {A = Option C} (cond b (Some u) None) (Some v) → u ≡ v
had true u v e = some_same e
had false u v e = absurd (none-some v e)

module _ {M P : Type 0} (tb : TableOps M) (ch : PolicyOps P) (tl : TableLaws tb) (pl : PolicyLaws ch) where
  lawful : (g : CardGame Target) → Lawful (plan_line g)
  lawful g = game_lawful (λ t. sets_made t.0) g

  pub record Follows (x : Standing Family FamilyScore M P) : Type 0 where
    pub line : Planned (line_at x)
    pub account : Accounted (account_at x)

  either : {A : Type 0} (x : Standing Family FamilyScore M P) (f : A → Standing Family FamilyScore M P) (r : Result A Refusal) → Follows x
      → ((y : A) → r ≡ Ok y → Follows (f y)) → Follows (told x f r)
  either x f r s accepted =
      by_result r (λ r. Follows (told x f r)) accepted (λ e. record { line = s.line; account = s.account })

  follows : {x : Standing Family FamilyScore M P} → History plan_line family_scoring family_of tb ch x → Follows x
  follows (made g m p) = record { line = planned_game g; account = tt }
  follows (load {x} g h) =
      either x _ (loads tb x.state (plan_line g)) (follows h) (λ b e. record { line = planned_game g; account = (follows h).account })
  follows (play {x} n h) =
      either x _ (plays x.state n) (follows h) (λ b e.
      let (idle, more) = yes_first (none_open x.state.search) _ _ b e in
      let (can, is) = yes_first (can_play x.state.line n) _ _ b more in
      let r = at_rest family_scoring family_of tb x (sound plan_line family_scoring family_of tb ch family_laws lawful tl pl h) idle in
      record {
        line = planned_play (line_at x) n (subst (λ (l : Line Family). can_play l n ≡ true) r.same can) (follows h).line;
        account = (follows h).account;
      })
  follows (take_back {x} h) =
      either x _ (takes_back x.state) (follows h) (λ b e. record { line = planned_back (line_at x) (follows h).line; account = (follows h).account })
  follows (begin {x} j w k own h) =
      either x _ (begins family_scoring x.state j w k) (follows h) (λ y e.
      record { line = (follows h).line; account = record { line = line_at x; is = refl; planned = (follows h).line } })
  follows (run {x} j k n own h) =
      either x _ (runs family_scoring family_of tb ch x.state j k n) (follows h) (λ y e.
      record { line = (follows h).line; account = more_run n y.answer y.entered (account_at x) (follows h).account })
  follows (end {x} j k own h) =
      either x _ (ends family_scoring x.state j k) (follows h) (λ y e. record { line = (follows h).line; account = (follows h).account })
  follows (clear {x} h) = record { line = (follows h).line; account = (follows h).account }

  pub plan_promised : PlanPromise tb ch
  plan_promised x h j k own y e v is c at w =
      let t = (promised plan_line family_scoring family_of tb ch family_laws lawful tl pl).at_end x h j k own y e in
      let same : t.account ≡ c = some_same (sym t.is ∙ at) in
      let stood : Stood c.position = subst Accounted at (follows h).account in
      let l = stood.planned in
      let d = l.stand.deal in
      let p = l.stand.present in
      let at_line = planned_position stood.line l in
      let value : clamped family_scoring t.account.window (plain family_scoring family_of t.account.position) ≡ v =
      had t.account.said_finished _ v (sym t.holds.value ∙ is) in
      let here : c.position ≡ position d (sets_made l.target) p = sym stood.is ∙ at_line.is in
      let family : v ≡ plan_family d l.target p =
      sym value
      ∙ ap (λ (a : Account Family FamilyScore). clamped family_scoring a.window (plain family_scoring family_of a.position)) same
      ∙ ap (λ (b : Bracket FamilyScore). clamped family_scoring b (plain family_scoring family_of c.position)) w
      ∙ clamped_whole family_scoring family_laws (plain family_scoring family_of c.position)
      ∙ ap (plain family_scoring family_of) here ∙ plan_value d l.target p in
      record {
        stand = l.stand;
        target = l.target;
        at = record { is = here; valid = at_line.valid; reached = at_line.reached };
        beaten = subst (Beaten l.stand l.target) (sym family) (plan_theorem d at_line.valid l.target p at_line.reached);
      }
