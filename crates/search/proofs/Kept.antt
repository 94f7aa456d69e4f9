-- A step keeps the invariant of a search, and comes nearer to its end.
use Rattle.std.proofs.Common.{◌≡◌, ℕ, ◌^◌, ◌<◌, ◌≤◌, Bool, true, false, cond, ltb, List, [], ◌∷◌, length, Some, None, Option, sym, refl, ap, ◌∙◌, subst, ⊎_elim, true≢false, arith}
use Rattle.std.specs.Prelude.{bit_or}
use Rattle.std.proofs.lemmas.Option.{none-some}
use Rattle.std.proofs.lemmas.Bool.{cond_both, cases_Bool, ltb-false, lt-ltb}
use Rattle.bitsets.specs.Sets.{has}
use Rattle.lattice.specs.declared.bracket.Bracket.{Bracket}
use Rattle.lattice.specs.Scores.{Scoring, Laws}
use Rattle.lattice.specs.Windows.{Under, Around, decided, paired, if_decided}
use Rattle.lattice.proofs.Order.{Settles, u_refl, decided_settles, point_settles}
use Rattle.games.specs.declared.key.Key.{Key}
use Rattle.games.specs.declared.side.Side.{Side}
use Rattle.games.specs.declared.side.Side.TheVariants.{Max, Min}
use Rattle.games.specs.Trees.{Tree, over, turn, Forest, Line, key_of, height_of, count, plain, loaded, child, can_play, after_play, Within, Lawful}
use Rattle.tables.specs.declared.claim.Claim.{Claim}
use Rattle.tables.specs.Tables.{TableOps, TableLaws}
use Rattle.policies.specs.Policies.{PolicyOps, PolicyLaws, free}
use Rattle.policies.proofs.Uses.{free_parts, parts_free}
use Rattle.search.specs.declared.frame.Frame.{Frame}
use Rattle.search.specs.declared.frame.Hand.{Hand}
use Rattle.search.specs.declared.frame.Hand.TheVariants.{Enter, Holding, Nothing}
use Rattle.search.specs.Steps.{Search, narrowed, cut, shut, folded, claim, claimed, marked, noticed, rests, finished, moved, entering, entering_turn, absorbing, closed, taking, resuming, stepped}
use Rattle.search.specs.Invariant.{Fair, Pending, Waits, Running, Honest, Invariant}
use Rattle.search.specs.Promises.{Kept}
use Rattle.search.proofs.Places.{with_small}
use Rattle.search.proofs.Forests.{untaken_none, untaken_some}
use Rattle.search.proofs.Folding.{start_fair, fold_fair, cut_around, cut_settles, full_around}
use Rattle.search.proofs.Depth.{waits_within, waits_deep}

some_same : {A : Type 0} {a b : A} → Some a ≡ Some b → a ≡ b
some_same q = cc

not_free : (t n p : ℕ) → n ≤ 64 → p < n → free t n p ≡ false → has t p ≡ true
not_free t n p few h e =
    ⊎_elim (λ x. x) (λ x. absurd (true≢false (sym (parts_free t n p h few x) ∙ e))) (cases_Bool (has t p))

module _ {C : Type 0} (o : Scoring C) (law : Laws o) where
  -- a claim that is used settles the window, and its codes are those of its ends
  read_fair : (w b : Bracket C) (l h : Option C) → if_decided o w (paired l h) ≡ Some b
      → Settles o w b × (l ≡ Some b.lo) × (h ≡ Some b.hi)
  read_fair w b None h e = absurd (none-some _ e)
  read_fair w b (Some l) None e = absurd (none-some _ e)
  read_fair w b (Some l) (Some h) e = go (decided o w (record { lo = l; hi = h })) refl e
    where
      go : (x : Bool) → decided o w (record { lo = l; hi = h }) ≡ x → cond x (Some (record { lo = l; hi = h })) None ≡ Some b
          → Settles o w b × (Some l ≡ Some b.lo) × (Some h ≡ Some b.hi)
      go true p q =
          let r : ◌≡◌ {A = Bracket C} (record { lo = l; hi = h }) b = cc in
          (subst (λ x. Settles o w x) r (decided_settles o law w (record { lo = l; hi = h }) p), ap (λ x. Some x.lo) r, ap (λ x. Some x.hi) r)
      go false p q = absurd (none-some _ q)

module _ {C : Type 0} (o : Scoring C) where
  narrowed_marked : (d : Side) (f : Frame C) (n : ℕ) → narrowed o d (marked f n) ≡ narrowed o d f
  narrowed_marked Max f n = refl
  narrowed_marked Min f n = refl

module _ {S C M P : Type 0} where
  -- a search by its parts
  abbrev state : Tree S → List (Tree S) → M → P → List (Frame C) → ℕ → Hand C → ℕ → ℕ → Search S C M P
  state t us m p fs ps h n u =
      record { line = record { present = t; earlier = us }; table = m; policy = p; frames = fs; places = ps; hand = h; entered = n; used = u }

module _ {S C M P : Type 0} (o : Scoring C) (st : S → C) (tb : TableOps M) (ch : PolicyOps P)
    (law : Laws o) (tl : TableLaws tb) (pl : PolicyLaws ch) (base : Line S) (w₀ : Bracket C) (ok : Lawful base) where
  -- a position that is over
  over_kept : (k : Key) (g : ℕ) (v : S) (us : List (Tree S)) (m : M) (p : P) (fs : List (Frame C)) (w : Bracket C) (ps n u : ℕ)
      → Waits o st base w₀ (over k g v) us w fs → height_of base.present < ps → Honest o st tb (loaded base) m
      → let s : Search S C M P = state (over k g v) us m p fs ps (Enter w) n u in
      Kept o st tb base w₀ s (entering o st tb s w (Some v) None)
  over_kept k g v us m p fs w ps n u e z y = record {
    keeps = record {
      underway = (w, e, record { low = u_refl o law (st v); high = u_refl o law (st v) }, point_settles o law w (st v));
      room = z;
      honest = y;
    };
    few = omega arith;
    falls = omega arith;
    told = λ x q. omega arith;
  }

  -- a claim of the table that decides the window
  claim_fair : (t : Tree S) (m : M) (w b : Bracket C) → Within t (loaded base) → Honest o st tb (loaded base) m
      → (a : Option Claim) → tb.answer m (key_of t) ≡ a → claimed o w a ≡ Some b → Around o b (plain o st t) × Settles o w b
  claim_fair t m w b i y None e q = absurd (none-some _ q)
  claim_fair t m w b i y (Some c) e q =
      let r = read_fair o law w b (o.decode c.lo) (o.decode c.hi) q in
      let a = tl.answers m (key_of t) c e in
      (y c a.0 t i (sym a.1) b.lo b.hi r.1 r.2, r.0)

  -- a turn: its claim is used, or its frame pushed, for which there is room
  turn_kept : (k : Key) (g : ℕ) (d : Side) (ts : Forest S) (us : List (Tree S)) (m : M) (p : P) (fs : List (Frame C)) (w : Bracket C) (ps n u : ℕ)
      → Waits o st base w₀ (turn k g d ts) us w fs → height_of base.present < ps → Honest o st tb (loaded base) m
      → (a : Option (Bracket C)) → claimed o w (tb.answer m k) ≡ a
      → let s : Search S C M P = state (turn k g d ts) us m p fs ps (Enter w) n u in
      Kept o st tb base w₀ s (entering_turn o s w d a)
  turn_kept k g d ts us m p fs w ps n u e z y None q =
      let s : Search S C M P = state (turn k g d ts) us m p fs ps (Enter w) n u in
      cond_both (ltb (length fs) ps) _ _ (λ x. Kept o st tb base w₀ s x)
      (λ x. record {
        keeps = record { underway = (start_fair o st law d (turn k g d ts) ts w, e); room = z; honest = y };
        few = omega (arith, untaken_none 0 ts);
        falls = omega (arith, untaken_none 0 ts);
        told = λ x q. omega arith;
      })
      (λ x. absurd (omega (arith, z, ltb-false (length fs) ps x, waits_deep o st base w₀ ok (turn k g d ts) us w fs e)))
  turn_kept k g d ts us m p fs w ps n u e z y (Some b) q =
      let r : Around o b (plain o st (turn k g d ts)) × Settles o w b =
      claim_fair (turn k g d ts) m w b (waits_within o st base w₀ ok (turn k g d ts) us w fs e) y (tb.answer m k) refl q in
      record {
        keeps = record { underway = (w, e, r.0, r.1); room = z; honest = y };
        few = omega arith;
        falls = omega arith;
        told = λ x q. omega arith;
      }

  -- a child's bracket goes into its parent's
  absorb_kept : (t : Tree S) (k : Key) (g : ℕ) (d : Side) (ts : Forest S) (us : List (Tree S)) (m : M) (p : P) (f : Frame C) (fs : List (Frame C)) (w b : Bracket C) (ps n u : ℕ)
      → Waits o st base w₀ t (turn k g d ts ∷ us) w (f ∷ fs) → Around o b (plain o st t) → Settles o w b
      → height_of base.present < ps → Honest o st tb (loaded base) m
      → let s : Search S C M P = state t (turn k g d ts ∷ us) m p (f ∷ fs) ps (Holding b) n u in
      Kept o st tb base w₀ s (absorbing o s b (f ∷ fs) (turn k g d ts ∷ us))
  absorb_kept t k g d ts us m p f fs w b ps n u e r a z y =
      let c : Pending o st t w (turn k g d ts) f = e.0 in
      let room = ok.few (turn k g d ts) (waits_within o st base w₀ ok (turn k g d ts) us f.window fs e.1) in
      let v : Fair o st d (turn k g d ts) ts f.window (folded o (Some d) f.found b) (bit_or c.before (2 ^ c.place)) =
      fold_fair o st law d (turn k g d ts) ts f b c.before c.place c.fair c.inside (omega (arith, c.inside, room))
      (subst (λ x. Around o b (plain o st x)) (sym c.is) r) (subst (λ x. Settles o x b) (sym c.asked) a) in
      record {
        keeps = record {
          underway = (subst (λ x. Fair o st d (turn k g d ts) ts f.window (folded o (Some d) f.found b) x) (sym c.mark) v, e.1);
          room = z;
          honest = y;
        };
        few = omega arith;
        falls = omega arith;
        told = λ x q. omega arith;
      }

  -- a true claim put leaves the table honest
  put_honest : (t : Tree S) (m : M) (b : Bracket C) → Within t (loaded base) → Around o b (plain o st t) → Honest o st tb (loaded base) m
      → Honest o st tb (loaded base) (tb.put m (claim o (key_of t) b))
  put_honest t m b i r y c a v j e l h p q =
      ⊎_elim (λ x. y c x v j e l h p q)
      (λ x.
      let el : l ≡ b.lo = some_same (sym p ∙ ap (λ z. o.decode z.lo) x ∙ law.reads b.lo) in
      let eh : h ≡ b.hi = some_same (sym q ∙ ap (λ z. o.decode z.hi) x ∙ law.reads b.hi) in
      let et : v ≡ t = ok.keyed v t j i (e ∙ ap (λ z. z.key) x) in
      record {
        low = subst (λ z. Under o z (plain o st v)) (sym el) (subst (λ z. Under o b.lo (plain o st z)) (sym et) r.low);
        high = subst (λ z. Under o (plain o st v) z) (sym eh) (subst (λ z. Under o (plain o st z) b.hi) (sym et) r.high);
      })
      (tl.puts m (claim o (key_of t) b) c a)

  -- a position closes with a bracket that holds its value and settles its window
  close_kept : (k : Key) (g : ℕ) (d : Side) (ts : Forest S) (us : List (Tree S)) (m : M) (p p' : P) (f : Frame C) (fs : List (Frame C)) (b : Bracket C) (ps n u : ℕ)
      → Waits o st base w₀ (turn k g d ts) us f.window fs → Around o b (plain o st (turn k g d ts)) → Settles o f.window b
      → height_of base.present < ps → Honest o st tb (loaded base) m
      → let s : Search S C M P = state (turn k g d ts) us m p (f ∷ fs) ps Nothing n u in
      Kept o st tb base w₀ s (closed o tb s p' fs b)
  close_kept k g d ts us m p p' f fs b ps n u e r a z y = record {
    keeps = record {
      underway = (f.window, e, r, a);
      room = z;
      honest = put_honest (turn k g d ts) m b (waits_within o st base w₀ ok (turn k g d ts) us f.window fs e) r y;
    };
    few = omega arith;
    falls = omega arith;
    told = λ x q. omega arith;
  }

  -- the child at an untaken place is played
  play_kept : (k : Key) (g : ℕ) (d : Side) (ts : Forest S) (us : List (Tree S)) (m : M) (p : P) (f : Frame C) (fs : List (Frame C)) (ps n u i : ℕ)
      → Waits o st base w₀ (turn k g d ts) us f.window fs → Fair o st d (turn k g d ts) ts f.window f.found f.taken.0
      → count ts ≤ 64 → i < count ts → has f.taken.0 i ≡ false
      → height_of base.present < ps → Honest o st tb (loaded base) m
      → let s : Search S C M P = state (turn k g d ts) us m p (f ∷ fs) ps Nothing n u in
      let l : Line S = record { present = child (turn k g d ts) i; earlier = turn k g d ts ∷ us } in
      Kept o st tb base w₀ s (moved s l m p (marked f i ∷ fs) (Enter (narrowed o d f)))
  play_kept k g d ts us m p f fs ps n u i e v few h a z y =
      let low : i < 64 = omega arith in
      let sum = untaken_some (turn k g d ts) ts f.taken.0 i h low a in
      record {
        keeps = record {
          underway = (
            record { place = i; before = f.taken.0; inside = h; is = refl; mark = with_small f.taken.0 i low; fair = v; asked = narrowed_marked o d f i },
            e,
          );
          room = z;
          honest = y;
        };
        few = omega arith;
        falls = omega arith;
        told = λ x q. omega arith;
      }

  -- the policy chooses a child, or none where all are taken
  choose_kept : (k : Key) (g : ℕ) (d : Side) (ts : Forest S) (us : List (Tree S)) (m : M) (p : P) (f : Frame C) (fs : List (Frame C)) (ps n u : ℕ)
      → Waits o st base w₀ (turn k g d ts) us f.window fs → Fair o st d (turn k g d ts) ts f.window f.found f.taken.0
      → height_of base.present < ps → Honest o st tb (loaded base) m → count ts ≤ 64
      → (r : Option ℕ) → ch.choose p (length fs) f.taken.0 (count ts) ≡ r
      → let s : Search S C M P = state (turn k g d ts) us m p (f ∷ fs) ps Nothing n u in
      Kept o st tb base w₀ s (taking o tb s d f fs r)
  choose_kept k g d ts us m p f fs ps n u e v z y few None q =
      let all = λ (i : ℕ) (h : i < count ts). not_free f.taken.0 (count ts) i few h ((pl.chooses p (length fs) f.taken.0 (count ts) v.small).none q i) in
      close_kept k g d ts us m p p f fs f.found ps n u e (full_around o st law k g d ts f.window f.found f.taken.0 v all) v.settles z y
  choose_kept k g d ts us m p f fs ps n u e v z y few (Some i) q =
      let s : Search S C M P = state (turn k g d ts) us m p (f ∷ fs) ps Nothing n u in
      let l : Line S = record { present = turn k g d ts; earlier = us } in
      let x = free_parts f.taken.0 (count ts) i ((pl.chooses p (length fs) f.taken.0 (count ts) v.small).some i q) in
      let can : can_play l i ≡ true = lt-ltb i (count ts) x.0 in
      let to : Line S = record { present = child (turn k g d ts) i; earlier = turn k g d ts ∷ us } in
      let there : after_play l i ≡ to = ap (λ b. cond b to l) can in
      subst (λ b. Kept o st tb base w₀ s (cond b (moved s (after_play l i) m p (marked f i ∷ fs) (Enter (narrowed o d f))) s)) (sym can)
      (subst (λ a. Kept o st tb base w₀ s (moved s a m p (marked f i ∷ fs) (Enter (narrowed o d f)))) (sym there)
      (play_kept k g d ts us m p f fs ps n u i e v few x.0 x.2 z y))

  resume_kept : (k : Key) (g : ℕ) (d : Side) (ts : Forest S) (us : List (Tree S)) (m : M) (p : P) (f : Frame C) (fs : List (Frame C)) (ps n u : ℕ)
      → Waits o st base w₀ (turn k g d ts) us f.window fs → Fair o st d (turn k g d ts) ts f.window f.found f.taken.0
      → height_of base.present < ps → Honest o st tb (loaded base) m
      → let s : Search S C M P = state (turn k g d ts) us m p (f ∷ fs) ps Nothing n u in
      Kept o st tb base w₀ s (resuming o tb ch s (f ∷ fs) (Some d))
  resume_kept k g d ts us m p f fs ps n u e v z y =
      let s : Search S C M P = state (turn k g d ts) us m p (f ∷ fs) ps Nothing n u in
      let few : count ts ≤ 64 = ok.few (turn k g d ts) (waits_within o st base w₀ ok (turn k g d ts) us f.window fs e) in
      cond_both (shut o (narrowed o d f)) _ _ (λ x. Kept o st tb base w₀ s x)
      (λ q. close_kept k g d ts us m p (noticed ch p (length fs) f.last) f fs (cut o d f) ps n u e
      (cut_around o st law k g d ts f f.taken.0 v) (cut_settles o law d f ((law.orders _ _).0 q)) z y)
      (λ q. choose_kept k g d ts us m p f fs ps n u e v z y few (ch.choose p (length fs) f.taken.0 (count ts)) refl)

  step_kept : (t : Tree S) (us : List (Tree S)) (m : M) (p : P) (fs : List (Frame C)) (h : Hand C) (ps n u : ℕ)
      → Running o st base w₀ t us fs h → height_of base.present < ps → Honest o st tb (loaded base) m → rests fs h ≡ false
      → let s : Search S C M P = state t us m p fs ps h n u in
      Kept o st tb base w₀ s (stepped o st tb ch s)
  step_kept (over k g v) us m p fs (Enter w) ps n u e z y q = over_kept k g v us m p fs w ps n u e z y
  step_kept (turn k g d ts) us m p fs (Enter w) ps n u e z y q = turn_kept k g d ts us m p fs w ps n u e z y (claimed o w (tb.answer m k)) refl
  step_kept t us m p [] (Holding b) ps n u e z y q = absurd (true≢false q)
  step_kept t [] m p (f ∷ fs) (Holding b) ps n u e z y q = absurd e.1
  step_kept t (over k g v ∷ us) m p (f ∷ fs) (Holding b) ps n u e z y q = absurd e.1.0.fair
  step_kept t (turn k g d ts ∷ us) m p (f ∷ fs) (Holding b) ps n u e z y q =
      absorb_kept t k g d ts us m p f fs e.0 b ps n u e.1 e.2 e.3 z y
  step_kept t us m p [] Nothing ps n u e z y q = absurd e
  step_kept (over k g v) us m p (f ∷ fs) Nothing ps n u e z y q = absurd e.0
  step_kept (turn k g d ts) us m p (f ∷ fs) Nothing ps n u e z y q = resume_kept k g d ts us m p f fs ps n u e.1 e.0 z y

  pub stepped_kept : (s : Search S C M P) → Invariant o st tb base w₀ s → finished s ≡ false → Kept o st tb base w₀ s (stepped o st tb ch s)
  stepped_kept s r =
      step_kept s.line.present s.line.earlier s.table s.policy s.frames s.hand s.places s.entered s.used
      r.underway r.room r.honest
