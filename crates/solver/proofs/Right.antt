-- What a search of a fresh analyst finds is right for its position.
use Rattle.std.proofs.Common.{◌≡◌, ℕ, ◌<◌, cond, List, [], ◌∷◌, Some, None, Option, sym, refl, ◌∙◌}
use Rattle.std.specs.Option.{is_some}
use Rattle.lattice.specs.declared.bracket.Bracket.{Bracket}
use Rattle.lattice.specs.Scores.{Scoring, Laws, standing}
use Rattle.lattice.specs.Windows.{clamped, whole}
use Rattle.games.specs.Trees.{Line, Lawful, height_of, plain, loaded}
use Rattle.tables.specs.Tables.{TableOps, TableLaws}
use Rattle.policies.specs.Policies.{PolicyOps, PolicyLaws}
use Rattle.search.specs.Invariant.{Honest}
use Rattle.search.specs.declared.frame.Frame.{Frame}
use Rattle.search.specs.declared.frame.Hand.{Hand}
use Rattle.search.specs.declared.frame.Hand.TheVariants.{Enter, Holding, Nothing}
use Rattle.search.specs.Promises.{began}
use Rattle.search.specs.Steps.{Search, rests, finished, ran, entries}
use Rattle.search.proofs.Finish.{promised}
use Rattle.analyst.specs.Calls.{value_of}
use Rattle.analyst.proofs.Searching.{value_right}
use Rattle.solver.specs.Solving.{is_finished, finds, ends_at, SolvedRight}

-- the whole window shows every score as it is
pub clamped_whole : {C : Type 0} (o : Scoring C) → Laws o → (v : C) → clamped o (whole o) v ≡ v
clamped_whole o law v = law.bottom_neutral (o.meet v o.top) ∙ law.meet_commutes v o.top ∙ law.top_neutral v

-- a value is told exactly if the search is finished
pub value_told : {C : Type 0} (o : Scoring C) (w : Bracket C) (fs : List (Frame C)) (h : Hand C) → is_some (value_of o w fs h) ≡ rests fs h
value_told o w [] (Enter v) = refl
value_told o w [] (Holding b) = refl
value_told o w [] Nothing = refl
value_told o w (f ∷ fs) h = refl

-- and so it is whatever score the value stands for
pub some_standing : {A B : Type 0} (f : A → B) (v : Option A) → is_some v ≡ is_some (standing f v)
some_standing f None = refl
some_standing f (Some x) = refl

module _ {S C M P : Type 0} (o : Scoring C) (st : S → C) (tb : TableOps M) (ch : PolicyOps P) where
  -- what is found has a value exactly where the search is at its end
  pub finds_ends : (l : Line S) (m : M) (p : P) (places n : ℕ)
      → is_finished (finds o st tb ch l m p places n) ≡ ends_at o st tb ch l m p places n
  finds_ends l m p places n =
      let z : Search S C M P = ran o st tb ch n (began l (whole o) (tb.clear m) p places) in
      value_told o (whole o) z.frames z.hand

module _ {S C M P : Type 0} (o : Scoring C) (st : S → C) (tb : TableOps M) (ch : PolicyOps P)
    (law : Laws o) (tl : TableLaws tb) (pl : PolicyLaws ch) where
  pub finds_right : (l : Line S) (m : M) (p : P) (places n : ℕ) → Lawful l → height_of l.present < places
      → SolvedRight o st l.present n (finds o st tb ch l m p places n)
  finds_right l m p places n ok room =
      let w : Bracket C = whole o in
      let honest : Honest o st tb (loaded l) (tb.clear m) = λ c h. absurd (tl.clears m c h) in
      let x : Search S C M P = began l w (tb.clear m) p places in
      let z : Search S C M P = ran o st tb ch n x in
      let all = promised o st tb ch law tl pl in
      let s = all.search l w (tb.clear m) p places n ok honest room in
      let g = all.run n x l w ok (record { underway = (refl, refl, refl); room = room; honest = honest }) in
      let did = all.steps n x in
      let same : is_finished (finds o st tb ch l m p places n) ≡ finished z = finds_ends o st tb ch l m p places n in
      record {
        value =
            value_right o st tb ch law tl pl l w z g.keeps z.frames z.hand refl refl
            ∙ (λ i. cond (sym same i) (Some (clamped_whole o law (plain o st l.present) i)) None);
        ends = λ e. same ∙ s.ends e;
        entries = entries o st tb ch n x;
        few = s.few;
        told = s.told;
        within = did.0;
        all = λ e. did.1 (sym same ∙ e);
      }
