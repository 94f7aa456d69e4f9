-- What a bracket in hand says, and the whole of what a search promises.
use Rattle.std.proofs.Common.{◌≡◌, ℕ, suc, ◌-◌, ◌^◌, ◌<◌, min, true, true≢false, List, [], ◌∷◌, length, sym, refl, ap, ◌∙◌, subst, ⊎_elim, arith}
use Rattle.std.proofs.lemmas.Bool.{cases_Bool}
use Rattle.lattice.specs.declared.Lattice.{Ghosts as Scores}
use Rattle.lattice.specs.declared.bracket.Bracket.{Bracket}
use Rattle.lattice.specs.Scores.{Scoring, Laws}
use Rattle.lattice.specs.Windows.{Around, decided}
use Rattle.lattice.proofs.Order.{Settles, u_refl, u_trans, settled, equal_same}
use Rattle.games.specs.Trees.{Tree, Line, height_of, plain, loaded, Lawful}
use Rattle.tables.specs.declared.Table.{Ghosts as Tables}
use Rattle.tables.specs.Tables.{TableOps, TableLaws}
use Rattle.policies.specs.declared.Policy.{Ghosts as Policies}
use Rattle.policies.specs.Policies.{PolicyOps, PolicyLaws}
use Rattle.search.specs.declared.frame.Frame.{Frame}
use Rattle.search.specs.declared.frame.Hand.{Hand}
use Rattle.search.specs.declared.frame.Hand.TheVariants.{Enter, Holding, Nothing}
use Rattle.search.specs.Steps.{Search, rests, finished, ran, entries}
use Rattle.search.specs.Invariant.{Waits, Running, Honest, Invariant}
use Rattle.search.specs.Bounds.{stepped_of, ran_of, StepKeepsOf, RunKeepsOf, PromiseOf}
use Rattle.search.specs.Promises.{began, backs, plays, InHand, Answers, Searched, Promise}
use Rattle.search.proofs.Kept.{stepped_kept}
use Rattle.search.proofs.Runs.{to_do_some, went, did}

-- a bracket that settles a window and holds a value decides it
settles_decides : {C : Type 0} (o : Scoring C) → Laws o → (w b : Bracket C) (v : C) → Settles o w b → Around o b v → decided o w b ≡ true
settles_decides o law w b v d a =
    equal_same o law (settled o law w b b.hi d (record { low = u_trans o law a.low a.high; high = u_refl o law b.hi }))

module _ {S C : Type 0} (o : Scoring C) (st : S → C) (base : Line S) (w₀ : Bracket C) where
  in_hand : {M P : Type 0} (tb : TableOps M) → Laws o → (s : Search S C M P) (h : Hand C)
      → Running o st base w₀ s.line.present s.line.earlier s.frames h
      → (b : Bracket C) → h ≡ Holding b → InHand o st tb base w₀ s b
  in_hand tb law s (Enter w) e b q = let z : ◌≡◌ {A = ℕ} 0 1 = cc in absurd (omega arith)
  in_hand tb law s (Holding a) e b q =
      let (w, from, around, settles) = e in
      let z : a ≡ b = cc in
      let v : C = plain o st s.line.present in
      record {
        holds = subst (λ x. Around o x v) z around;
        window = w;
        asked = from;
        decides = subst (λ x. decided o w x ≡ true) z (settles_decides o law w a v settles around);
      }
  in_hand tb law s Nothing e b q = let z : ◌≡◌ {A = ℕ} 0 1 = cc in absurd (omega arith)

  waits_back : (t : Tree S) (us : List (Tree S)) (w : Bracket C) (fs : List (Frame C)) → Waits o st base w₀ t us w fs
      → backs (length fs) (record { present = t; earlier = us }) ≡ base
  waits_back t us w [] e = λ i. record { present = sym e.0 i; earlier = sym e.1 i }
  waits_back t [] w (f ∷ fs) e = absurd e
  waits_back t (u ∷ us) w (f ∷ fs) e = waits_back u us f.window fs e.1

  running_back : (t : Tree S) (us : List (Tree S)) (fs : List (Frame C)) (h : Hand C) → Running o st base w₀ t us fs h
      → backs (plays h (length fs)) (record { present = t; earlier = us }) ≡ base
  running_back t us fs (Enter w) e = waits_back t us w fs e
  running_back t us fs (Holding b) e = waits_back t us e.0 fs e.1
  running_back t us [] Nothing e = absurd e
  running_back t us (f ∷ fs) Nothing e =
      let z : suc (length fs) - 1 ≡ length fs = omega arith in
      ap (λ n. backs n (record { present = t; earlier = us })) z ∙ waits_back t us f.window fs e.1

  finish_answers : {M P : Type 0} (tb : TableOps M) → Laws o → (s : Search S C M P) (fs : List (Frame C)) (h : Hand C) → s.hand ≡ h
      → Running o st base w₀ s.line.present s.line.earlier fs h → rests fs h ≡ true
      → (b : Bracket C) × (s.hand ≡ Holding b) × Answers o st tb base w₀ s b
  finish_answers tb law s [] (Enter w) i e q = absurd (true≢false (sym q))
  finish_answers tb law s [] Nothing i e q = absurd (true≢false (sym q))
  finish_answers tb law s (f ∷ fs) h i e q = absurd (true≢false (sym q))
  finish_answers tb law s [] (Holding b) i e q =
      let (w, from, around, settles) = e in
      let a : Around o b (plain o st base.present) = subst (λ x. Around o b (plain o st x)) (sym from.0) around in
      let z : Settles o w₀ b = subst (λ x. Settles o x b) (sym from.2) settles in (
        b,
        i,
        record {
          back = λ j. record { present = sym from.0 j; earlier = sym from.1 j };
          holds = a;
          decides = settles_decides o law w₀ b (plain o st base.present) z a;
          value = settled o law w₀ b (plain o st base.present) z a;
        },
      )

module _ {S C M P : Type 0} (o : Scoring C) (st : S → C) (tb : TableOps M) (ch : PolicyOps P)
    (law : Laws o) (tl : TableLaws tb) (pl : PolicyLaws ch) where
  finish : (base : Line S) (w₀ : Bracket C) (s : Search S C M P) → Invariant o st tb base w₀ s → finished s ≡ true
      → (b : Bracket C) × (s.hand ≡ Holding b) × Answers o st tb base w₀ s b
  finish base w₀ s r q = finish_answers o st base w₀ tb law s s.frames s.hand refl r.underway q

  searched : (base : Line S) (w₀ : Bracket C) (m : M) (p : P) (places n : ℕ) → Lawful base
      → Honest o st tb (loaded base) m → height_of base.present < places
      → Searched o st tb base w₀ n (entries o st tb ch n (began base w₀ m p places)) (ran o st tb ch n (began base w₀ m p places))
  searched base w₀ m p places n ok y room =
      let s : Search S C M P = began base w₀ m p places in
      let z : Search S C M P = ran o st tb ch n s in
      let g = went o st tb ch law tl pl base w₀ ok n s (record { underway = (refl, refl, refl); room = room; honest = y }) in
      let some = to_do_some z in
      record {
        few = omega (arith, g.few);
        told = g.told 0 refl ∙ ap (λ x. min x (2 ^ 64 - 1)) (omega arith);
        ends = λ h.
            ⊎_elim (λ e. e) (λ e. absurd (omega (arith, some, g.falls e))) (cases_Bool (finished z));
        answers = λ q. finish base w₀ z g.keeps q;
        honest = g.keeps.honest;
      }

  pub promised : Promise o st tb ch
  promised = record {
    step = λ s base w₀ ok r q. stepped_kept o st tb ch law tl pl base w₀ ok s r q;
    run = λ n s base w₀ ok r. went o st tb ch law tl pl base w₀ ok n s r;
    steps = did o st tb ch;
    hand = λ base w₀ s r b q. in_hand o st base w₀ tb law s s.hand r.underway b q;
    claims = λ base w₀ s r. r.honest;
    back = λ base w₀ s r. running_back o st base w₀ s.line.present s.line.earlier s.frames s.hand r.underway;
    finish = finish;
    search = searched;
  }

-- the same of what the bounds of an engine mean, and the promise of a step and of a run for what they are proved to leave
module _ {S T P : Type 0} (score : Scores S) (table : Tables T) (policy : Policies P) where
  pub promise_of : PromiseOf score table policy
  promise_of = promised score.scoring score.stands table.ops policy.ops score.laws table.laws policy.laws

  pub step_keeps : (s z : Search S score.Score table.Model policy.Model) → z ≡ stepped_of score table policy s → StepKeepsOf score table s z
  step_keeps s z e = subst (StepKeepsOf score table s) (sym e) (promise_of.step s)

  pub run_keeps : (n : ℕ) (s z : Search S score.Score table.Model policy.Model) → z ≡ ran_of score table policy n s → RunKeepsOf score table policy n s z
  run_keeps n s z e = subst (RunKeepsOf score table policy n s) (sym e) (promise_of.run n s)
