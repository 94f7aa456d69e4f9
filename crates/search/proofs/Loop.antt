-- A run as a loop: what is left of it from here comes to the same as the whole.
use Rattle.std.proofs.Common.{◌≡◌, ℕ, zero, suc, ◌+◌, ◌-◌, ◌<◌, true, false, cond, List, [], ◌∷◌, sym, refl, ap, ◌∙◌, arith}
use Rattle.lattice.specs.Scores.{Scoring}
use Rattle.tables.specs.Tables.{TableOps}
use Rattle.policies.specs.Policies.{PolicyOps}
use Rattle.search.specs.declared.frame.Frame.{Frame}
use Rattle.search.specs.declared.frame.Hand.{Hand}
use Rattle.search.specs.declared.frame.Hand.TheVariants.{Enter, Holding, Nothing}
use Rattle.search.specs.Steps.{Search, rests, finished, stepped, ran, done}
use Rattle.search.specs.Stacks.{all_framed, handed}

-- values and the scores that they stand for are finished together
pub rests_framed : {S C : Type 0} (st : S → C) (fs : List (Frame S)) (h : Hand S) → rests fs h ≡ rests (all_framed st fs) (handed st h)
rests_framed st [] (Enter w) = refl
rests_framed st [] (Holding b) = refl
rests_framed st [] Nothing = refl
rests_framed st (f ∷ fs) h = refl

module _ {S C M P : Type 0} (o : Scoring C) (st : S → C) (tb : TableOps M) (ch : PolicyOps P) where
  -- after i of n steps the state is s, and what is left of the run comes to the same as all of it from z
  pub record Left (n i : ℕ) (z s : Search S C M P) : Type 0 where
    pub state : ran o st tb ch (n - i) s ≡ ran o st tb ch n z
    pub count : i + done o st tb ch (n - i) s ≡ done o st tb ch n z

  pub left_all : (n : ℕ) (z : Search S C M P) → Left n 0 z z
  left_all n z =
      let e : n - 0 ≡ n = omega arith in
      record {
        state = ap (λ m. ran o st tb ch m z) e;
        count = let c : done o st tb ch (n - 0) z ≡ done o st tb ch n z = ap (λ m. done o st tb ch m z) e in omega arith;
      }

  ran_on : (m : ℕ) (s : Search S C M P) → finished s ≡ false → ran o st tb ch (suc m) s ≡ ran o st tb ch m (stepped o st tb ch s)
  ran_on m s q = ap (λ b. cond b s (ran o st tb ch m (stepped o st tb ch s))) q

  done_on : (m : ℕ) (s : Search S C M P) → finished s ≡ false → done o st tb ch (suc m) s ≡ suc (done o st tb ch m (stepped o st tb ch s))
  done_on m s q = ap (λ b. cond b 0 (suc (done o st tb ch m (stepped o st tb ch s)))) q

  -- one step more
  pub left_less : (n i : ℕ) (z s t : Search S C M P) → Left n i z s → i < n → finished s ≡ false → t ≡ stepped o st tb ch s → Left n (i + 1) z t
  left_less n i z s t l lt q is =
      let e : n - i ≡ suc (n - (i + 1)) = omega arith in
      let r : ran o st tb ch (n - i) s ≡ ran o st tb ch (n - (i + 1)) t =
      ap (λ m. ran o st tb ch m s) e ∙ ran_on (n - (i + 1)) s q ∙ ap (ran o st tb ch (n - (i + 1))) (sym is) in
      let d : done o st tb ch (n - i) s ≡ suc (done o st tb ch (n - (i + 1)) t) =
      ap (λ m. done o st tb ch m s) e ∙ done_on (n - (i + 1)) s q ∙ ap (λ x. suc (done o st tb ch (n - (i + 1)) x)) (sym is) in
      record { state = sym r ∙ l.state; count = let c = l.count in omega arith }

  ran_finished : (m : ℕ) (s : Search S C M P) → finished s ≡ true → ran o st tb ch m s ≡ s
  ran_finished zero s q = refl
  ran_finished (suc m) s q = ap (λ b. cond b s (ran o st tb ch m (stepped o st tb ch s))) q

  done_finished : (m : ℕ) (s : Search S C M P) → finished s ≡ true → done o st tb ch m s ≡ 0
  done_finished zero s q = refl
  done_finished (suc m) s q = ap (λ b. cond b 0 (suc (done o st tb ch m (stepped o st tb ch s)))) q

  -- a finished search stays as it is
  pub left_finished : (n i : ℕ) (z s : Search S C M P) → Left n i z s → finished s ≡ true
      → (s ≡ ran o st tb ch n z) × (i ≡ done o st tb ch n z)
  left_finished n i z s l q =
      (sym (ran_finished (n - i) s q) ∙ l.state, let d = done_finished (n - i) s q in let c = l.count in omega arith)

  -- and so does a search with no step left
  pub left_none : (n i : ℕ) (z s : Search S C M P) → Left n i z s → i ≡ n → (s ≡ ran o st tb ch n z) × (n ≡ done o st tb ch n z)
  left_none n i z s l at =
      let e : n - i ≡ 0 = omega arith in
      let d : done o st tb ch (n - i) s ≡ 0 = ap (λ m. done o st tb ch m s) e in
      (sym (ap (λ m. ran o st tb ch m s) e) ∙ l.state, let c = l.count in omega arith)
