-- Each way through a step, from what the program found on it.
use Rattle.std.proofs.Common.{◌≡◌, ℕ, suc, Bool, true, false, cond, ltb, List, [], ◌∷◌, length, Some, None, Option, sym, refl, ap, ◌∙◌, subst}
use Rattle.std.proofs.lemmas.Option.{none-some}
use Rattle.lattice.specs.declared.Lattice.{Ghosts}
use Rattle.lattice.specs.declared.bracket.Bracket.{Bracket}
use Rattle.lattice.specs.Scores.{Scoring, standing}
use Rattle.lattice.specs.Windows.{scored}
use Rattle.games.specs.declared.side.Side.{Side}
use Rattle.games.specs.Trees.{Line, key_of, score_of, side_of, children_of, count, can_play, after_play}
use Rattle.tables.specs.Tables.{TableOps}
use Rattle.policies.specs.Policies.{PolicyOps}
use Rattle.search.specs.declared.engine.Engine.{Engine}
use Rattle.search.specs.declared.frame.Frame.{Frame}
use Rattle.search.specs.declared.frame.Hand.TheVariants.{Enter, Holding, Nothing}
use Rattle.search.specs.declared.frame.Progress.{Progress}
use Rattle.search.specs.declared.stack.SearchStack.{SearchStack}
use Rattle.search.specs.Steps.{Search, more, claim, claimed, opened, narrowed, shut, cut, marked, noticed, moved, counted, entering, closed, resuming}
use Rattle.search.specs.Stacks.{head, tail, with_head, frames, room, framed, all_framed, handed, searching}

-- frames with a newest one
head_tail : {X : Type 0} (xs : List X) (x : X) → Some x ≡ head xs → xs ≡ x ∷ tail xs
head_tail [] x e = absurd (none-some x (sym e))
head_tail (y ∷ ys) x e = let z : y ≡ x = cc in ap (λ a. a ∷ ys) z

module _ {S C : Type 0} (st : S → C) where
  length_framed : (fs : List (Frame S)) → length (all_framed st fs) ≡ length fs
  length_framed [] = refl
  length_framed (f ∷ fs) = ap suc (length_framed fs)

  newest_framed : (fs : List (Frame S)) (f : Frame S) → Some f ≡ head fs → all_framed st fs ≡ framed st f ∷ all_framed st (tail fs)
  newest_framed fs f e = ap (all_framed st) (head_tail fs f e)

module _ {S C M P : Type 0} (o : Scoring C) (st : S → C) (tb : TableOps M) where
  enters_pushed : (s : Search S C M P) (w : Bracket C) (d : Side) (v : Option S) (t : Option Side) → v ≡ None → t ≡ Some d
      → claimed o w (tb.answer s.table (key_of s.line.present)) ≡ None → ltb (length s.frames) s.places ≡ true
      → entering o st tb s w v t ≡ counted s s.used (opened o w d ∷ s.frames) Nothing
  enters_pushed s w d v t over turn none can = rw (over, turn, none, can)

  enters_full : (s : Search S C M P) (w : Bracket C) (d : Side) (v : Option S) (t : Option Side) → v ≡ None → t ≡ Some d
      → claimed o w (tb.answer s.table (key_of s.line.present)) ≡ None → ltb (length s.frames) s.places ≡ false
      → entering o st tb s w v t ≡ s
  enters_full s w d v t over turn none can = rw (over, turn, none, can)

module _ {S C M P : Type 0} (o : Scoring C) (tb : TableOps M) (ch : PolicyOps P) where
  resumes_cut : (s : Search S C M P) (fs gs : List (Frame C)) (f : Frame C) (d : Side) (t : Option Side) → fs ≡ f ∷ gs → t ≡ Some d
      → shut o (narrowed o d f) ≡ true
      → resuming o tb ch s fs t ≡ closed o tb s (noticed ch s.policy (length gs) f.last) gs (cut o d f)
  resumes_cut s fs gs f d t newest turn cuts = rw (newest, turn, cuts)

  resumes_full : (s : Search S C M P) (fs gs : List (Frame C)) (f : Frame C) (d : Side) (t : Option Side) → fs ≡ f ∷ gs → t ≡ Some d
      → shut o (narrowed o d f) ≡ false
      → ch.choose s.policy (length gs) f.taken.0 (count (children_of s.line.present)) ≡ None
      → resuming o tb ch s fs t ≡ closed o tb s s.policy gs f.found
  resumes_full s fs gs f d t newest turn cuts none = rw (newest, turn, cuts, none)

  resumes_played : (s : Search S C M P) (fs gs : List (Frame C)) (f : Frame C) (d : Side) (t : Option Side) (n : ℕ) → fs ≡ f ∷ gs → t ≡ Some d
      → shut o (narrowed o d f) ≡ false
      → ch.choose s.policy (length gs) f.taken.0 (count (children_of s.line.present)) ≡ Some n
      → can_play s.line n ≡ true
      → resuming o tb ch s fs t ≡ moved s (after_play s.line n) s.table s.policy (marked f n ∷ gs) (Enter (narrowed o d f))
  resumes_played s fs gs f d t n newest turn cuts some can = rw (newest, turn, cuts, some, can)

  resumes_stuck : (s : Search S C M P) (fs gs : List (Frame C)) (f : Frame C) (d : Side) (t : Option Side) (n : ℕ) → fs ≡ f ∷ gs → t ≡ Some d
      → shut o (narrowed o d f) ≡ false
      → ch.choose s.policy (length gs) f.taken.0 (count (children_of s.line.present)) ≡ Some n
      → can_play s.line n ≡ false
      → resuming o tb ch s fs t ≡ s
  resumes_stuck s fs gs f d t n newest turn cuts some can = rw (newest, turn, cuts, some, can)

-- two states with the same parts
module _ {S C M P : Type 0} where
  same_parts : (s z : Search S C M P) → s.line ≡ z.line → s.table ≡ z.table → s.policy ≡ z.policy → s.frames ≡ z.frames
      → s.places ≡ z.places → s.hand ≡ z.hand → s.entered ≡ z.entered → s.used ≡ z.used → s ≡ z
  same_parts s z l m p f r h e u = λ i.
      record { line = l i; table = m i; policy = p i; frames = f i; places = r i; hand = h i; entered = e i; used = u i }

module _ {G T Q S C M P : Type 0} {meaning : Ghosts S} (o : Scoring C) (st : S → C) (tb : TableOps M) (ch : PolicyOps P)
    (line : G → Line S) (table : T → M) (policy : Q → P) (e : Engine G T Q S) (k : SearchStack S meaning) (g : Progress S) where
  abbrev before : Search S C M P
  before = searching st line table policy e k g

  -- a turn that the table does not know, and there is room for its frame
  pub way_pushed : (k' : SearchStack S meaning) (g' : Progress S) (w : Bracket S) (v : Option S) (t : Option Side) (d : Side) (b : Option (Bracket S)) (f : Frame S) (r : Bool)
      → v ≡ score_of (line e.game).present → v ≡ None → t ≡ side_of (line e.game).present → t ≡ Some d
      → standing (scored st) b ≡ claimed o (scored st w) (tb.answer (table e.table) (key_of (line e.game).present)) → b ≡ None
      → framed st f ≡ opened o (scored st w) d
      → r ≡ ltb (length (frames k)) (room k) → r ≡ true → frames k' ≡ cond r (f ∷ frames k) (frames k) → room k' ≡ room k
      → g'.hand ≡ Nothing → g'.entered ≡ more g.entered → g'.used ≡ g.used
      → searching st line table policy e k' g'
      ≡ entering o st tb before (scored st w) (score_of (line e.game).present) (side_of (line e.game).present)
  way_pushed k' g' w v t d b f r ev miss et turn eb none opens told hit fs rm h n u =
      let can : ltb (length (all_framed st (frames k))) (room k) ≡ true =
      ap (λ x. ltb x (room k)) (length_framed st (frames k)) ∙ sym told ∙ hit in
      let way = enters_pushed o st tb before (scored st w) d (score_of (line e.game).present) (side_of (line e.game).present)
      (sym ev ∙ miss) (sym et ∙ turn) (sym eb ∙ ap (standing (scored st)) none) can in
      let pushed : frames k' ≡ f ∷ frames k = fs ∙ ap (λ x. cond x (f ∷ frames k) (frames k)) hit in
      same_parts _ _ refl refl refl (ap (all_framed st) pushed ∙ ap (λ x. x ∷ all_framed st (frames k)) opens) rm (ap (handed st) h) n u ∙ sym way

  -- and there is none
  pub way_full : (k' : SearchStack S meaning) (w : Bracket S) (v : Option S) (t : Option Side) (d : Side) (b : Option (Bracket S)) (f : Frame S) (r : Bool)
      → v ≡ score_of (line e.game).present → v ≡ None → t ≡ side_of (line e.game).present → t ≡ Some d
      → standing (scored st) b ≡ claimed o (scored st w) (tb.answer (table e.table) (key_of (line e.game).present)) → b ≡ None
      → r ≡ ltb (length (frames k)) (room k) → r ≡ false → frames k' ≡ cond r (f ∷ frames k) (frames k) → room k' ≡ room k
      → searching st line table policy e k' g
      ≡ entering o st tb before (scored st w) (score_of (line e.game).present) (side_of (line e.game).present)
  way_full k' w v t d b f r ev miss et turn eb none told hit fs rm =
      let can : ltb (length (all_framed st (frames k))) (room k) ≡ false =
      ap (λ x. ltb x (room k)) (length_framed st (frames k)) ∙ sym told ∙ hit in
      let way = enters_full o st tb before (scored st w) d (score_of (line e.game).present) (side_of (line e.game).present)
      (sym ev ∙ miss) (sym et ∙ turn) (sym eb ∙ ap (standing (scored st)) none) can in
      let stays : frames k' ≡ frames k = fs ∙ ap (λ x. cond x (f ∷ frames k) (frames k)) hit in
      same_parts _ _ refl refl refl (ap (all_framed st) stays) rm refl refl refl ∙ sym way

  -- what is read of the newest frame before a child is chosen: the frame, the side to move, and the window for the next child
  pub record Reads (n : Option (Frame S)) (f : Frame S) (t : Option Side) (d : Side) (w : Bracket S) (b : Bool) : Type 0 where
    pub top : n ≡ head (frames k)
    pub newest : n ≡ Some f
    pub side : t ≡ side_of (line e.game).present
    pub turn : t ≡ Some d
    pub window : scored st w ≡ narrowed o d (framed st f)
    pub shuts : b ≡ shut o (scored st w)

  module _ (n : Option (Frame S)) (f : Frame S) (t : Option Side) (d : Side) (w : Bracket S) (b : Bool) (read : Reads n f t d w b) where
    splits : all_framed st (frames k) ≡ framed st f ∷ all_framed st (tail (frames k))
    splits = newest_framed st (frames k) f (sym read.newest ∙ read.top)

    turns : side_of (line e.game).present ≡ Some d
    turns = sym read.side ∙ read.turn

    shut_is : (x : Bool) → b ≡ x → shut o (narrowed o d (framed st f)) ≡ x
    shut_is x q = subst (λ y. shut o y ≡ x) read.window (sym read.shuts ∙ q)

    -- a cut
    pub way_cut : (e' e'' : Engine G T Q S) (k'' : SearchStack S meaning) (g'' : Progress S) (a : Bracket S) (deep : ℕ) → b ≡ true
        → deep ≡ length (tail (frames k)) → e'.game ≡ e.game → e'.table ≡ e.table
        → policy e'.policy ≡ noticed ch (policy e.policy) deep f.last
        → scored st a ≡ cut o d (framed st f)
        → searching st line table policy e'' k'' g''
        ≡ closed o tb (searching st line table policy e' k g) (policy e'.policy) (all_framed st (tail (frames k))) (scored st a)
        → searching st line table policy e'' k'' g'' ≡ resuming o tb ch before (all_framed st (frames k)) (side_of (line e.game).present)
    way_cut e' e'' k'' g'' a deep hit depth game tab pol cuts closes =
        let gs = all_framed st (tail (frames k)) in
        let way = resumes_cut o tb ch before (all_framed st (frames k)) gs (framed st f) d (side_of (line e.game).present) splits turns (shut_is true hit) in
        let told : policy e'.policy ≡ noticed ch (policy e.policy) (length gs) f.last =
        pol ∙ ap (λ x. noticed ch (policy e.policy) x f.last) (depth ∙ sym (length_framed st (tail (frames k)))) in
        closes
        ∙ same_parts _ _ (ap line game)
        (λ i. tb.put (table (tab i)) (claim o (key_of (line (game i)).present) (cuts i)))
        told refl refl (ap Holding cuts) refl refl
        ∙ sym way

    -- what the policy chose
    chosen : (x : Option ℕ) (deep m : ℕ) → deep ≡ length (tail (frames k)) → m ≡ count (children_of (line e.game).present)
        → x ≡ ch.choose (policy e.policy) deep f.taken.0 m
        → (y : Option ℕ) → x ≡ y
        → ch.choose (policy e.policy) (length (all_framed st (tail (frames k)))) f.taken.0 (count (children_of (line e.game).present)) ≡ y
    chosen x deep m depth many is y q =
        let same : deep ≡ length (all_framed st (tail (frames k))) = depth ∙ sym (length_framed st (tail (frames k))) in
        sym (λ i. ch.choose (policy e.policy) (same i) f.taken.0 (many i)) ∙ sym is ∙ q

    -- all children are taken
    pub way_taken : (e'' : Engine G T Q S) (k'' : SearchStack S meaning) (g'' : Progress S) (x : Option ℕ) (deep m : ℕ) → b ≡ false
        → deep ≡ length (tail (frames k)) → m ≡ count (children_of (line e.game).present)
        → x ≡ ch.choose (policy e.policy) deep f.taken.0 m → x ≡ None
        → searching st line table policy e'' k'' g''
        ≡ closed o tb before (policy e.policy) (all_framed st (tail (frames k))) (scored st f.found)
        → searching st line table policy e'' k'' g'' ≡ resuming o tb ch before (all_framed st (frames k)) (side_of (line e.game).present)
    way_taken e'' k'' g'' x deep m miss depth many is none closes =
        closes
        ∙ sym (resumes_full o tb ch before (all_framed st (frames k)) (all_framed st (tail (frames k))) (framed st f) d (side_of (line e.game).present) splits turns
        (shut_is false miss) (chosen x deep m depth many is None none))

    -- a child is played
    pub way_played : (e'' : Engine G T Q S) (k'' : SearchStack S meaning) (x : Option ℕ) (deep m i : ℕ) (y : Bool) (f' : Frame S) → b ≡ false
        → deep ≡ length (tail (frames k)) → m ≡ count (children_of (line e.game).present)
        → x ≡ ch.choose (policy e.policy) deep f.taken.0 m → x ≡ Some i
        → y ≡ can_play (line e.game) i → y ≡ true → line e''.game ≡ after_play (line e.game) i
        → table e''.table ≡ table e.table → policy e''.policy ≡ policy e.policy
        → f' ≡ marked f i → frames k'' ≡ with_head (frames k) f' → room k'' ≡ room k
        → searching st line table policy e'' k'' (record { hand = Enter w; entered = g.entered; used = g.used })
        ≡ resuming o tb ch before (all_framed st (frames k)) (side_of (line e.game).present)
    way_played e'' k'' x deep m i y f' miss depth many is some told hit goes tab pol mark fs rm =
        let whole : frames k ≡ f ∷ tail (frames k) = head_tail (frames k) f (sym read.newest ∙ read.top) in
        let marks : frames k'' ≡ marked f i ∷ tail (frames k) =
        fs ∙ ap (λ z. with_head z f') whole ∙ ap (λ z. z ∷ tail (frames k)) mark in
        same_parts _ _ goes tab pol (ap (all_framed st) marks) rm (ap Enter read.window) refl refl
        ∙ sym (resumes_played o tb ch before (all_framed st (frames k)) (all_framed st (tail (frames k))) (framed st f) d (side_of (line e.game).present) i splits turns
        (shut_is false miss) (chosen x deep m depth many is (Some i) some) (sym told ∙ hit))

    -- there is no such child
    pub way_stuck : (e'' : Engine G T Q S) (x : Option ℕ) (deep m i : ℕ) (y : Bool) → b ≡ false
        → deep ≡ length (tail (frames k)) → m ≡ count (children_of (line e.game).present)
        → x ≡ ch.choose (policy e.policy) deep f.taken.0 m → x ≡ Some i
        → y ≡ can_play (line e.game) i → y ≡ false → line e''.game ≡ after_play (line e.game) i
        → table e''.table ≡ table e.table → policy e''.policy ≡ policy e.policy
        → searching st line table policy e'' k g ≡ resuming o tb ch before (all_framed st (frames k)) (side_of (line e.game).present)
    way_stuck e'' x deep m i y miss depth many is some told never goes tab pol =
        let can : can_play (line e.game) i ≡ false = sym told ∙ never in
        let stays : line e''.game ≡ line e.game = rw can at goes in
        same_parts _ _ stays tab pol refl refl refl refl refl
        ∙ sym (resumes_stuck o tb ch before (all_framed st (frames k)) (all_framed st (tail (frames k))) (framed st f) d (side_of (line e.game).present) i splits turns
        (shut_is false miss) (chosen x deep m depth many is (Some i) some) can)
