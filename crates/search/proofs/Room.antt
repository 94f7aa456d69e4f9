-- No step changes how many places a stack has.
use Rattle.std.proofs.Common.{◌≡◌, ℕ, zero, suc, Bool, true, false, cond, ltb, List, [], ◌∷◌, length, Some, None, Option, refl, ◌∙◌}
use Rattle.lattice.specs.declared.bracket.Bracket.{Bracket}
use Rattle.lattice.specs.Scores.{Scoring}
use Rattle.games.specs.declared.side.Side.{Side}
use Rattle.games.specs.Trees.{Tree, key_of, score_of, side_of, children_of, count, can_play}
use Rattle.tables.specs.Tables.{TableOps}
use Rattle.policies.specs.Policies.{PolicyOps}
use Rattle.search.specs.declared.frame.Frame.{Frame}
use Rattle.search.specs.declared.frame.Hand.{Hand}
use Rattle.search.specs.declared.frame.Hand.TheVariants.{Enter, Holding, Nothing}
use Rattle.search.specs.Steps.{Search, claimed, narrowed, shut, finished, entering_turn, entering, absorbing, taking, resuming, stepped_by, stepped, ran}

module _ {S C M P : Type 0} where
  either : (b : Bool) (x y : Search S C M P) (n : ℕ) → x.places ≡ n → y.places ≡ n → (cond b x y).places ≡ n
  either true x y n e f = e
  either false x y n e f = f

module _ {S C M P : Type 0} (o : Scoring C) (st : S → C) (tb : TableOps M) (ch : PolicyOps P) (s : Search S C M P) where
  turn_room : (w : Bracket C) (d : Side) (v : Option (Bracket C)) → (entering_turn o s w d v).places ≡ s.places
  turn_room w d (Some b) = refl
  turn_room w d None = either (ltb (length s.frames) s.places) _ _ _ refl refl

  enter_room : (w : Bracket C) (v : Option S) (d : Option Side) → (entering o st tb s w v d).places ≡ s.places
  enter_room w (Some v) d = refl
  enter_room w None None = refl
  enter_room w None (Some d) = turn_room w d (claimed o w (tb.answer s.table (key_of s.line.present)))

  absorb_room : (b : Bracket C) (fs : List (Frame C)) (ts : List (Tree S)) → (absorbing o s b fs ts).places ≡ s.places
  absorb_room b [] ts = refl
  absorb_room b (f ∷ fs) [] = refl
  absorb_room b (f ∷ fs) (t ∷ ts) = refl

  take_room : (d : Side) (f : Frame C) (fs : List (Frame C)) (v : Option ℕ) → (taking o tb s d f fs v).places ≡ s.places
  take_room d f fs None = refl
  take_room d f fs (Some n) = either (can_play s.line n) _ _ _ refl refl

  resume_room : (fs : List (Frame C)) (d : Option Side) → (resuming o tb ch s fs d).places ≡ s.places
  resume_room [] d = refl
  resume_room (f ∷ fs) None = refl
  resume_room (f ∷ fs) (Some d) =
      either (shut o (narrowed o d f)) _ _ _ refl
      (take_room d f fs (ch.choose s.policy (length fs) f.taken.0 (count (children_of s.line.present))))

  step_room : (h : Hand C) → (stepped_by o st tb ch s h).places ≡ s.places
  step_room (Enter w) = enter_room w (score_of s.line.present) (side_of s.line.present)
  step_room (Holding b) = absorb_room b s.frames s.line.earlier
  step_room Nothing = resume_room s.frames (side_of s.line.present)

module _ {S C M P : Type 0} (o : Scoring C) (st : S → C) (tb : TableOps M) (ch : PolicyOps P) where
  pub ran_room : (n : ℕ) (s : Search S C M P) → (ran o st tb ch n s).places ≡ s.places
  ran_room zero s = refl
  ran_room (suc n) s =
      either (finished s) s (ran o st tb ch n (stepped o st tb ch s)) s.places refl
      (ran_room n (stepped o st tb ch s) ∙ step_room o st tb ch s s.hand)
