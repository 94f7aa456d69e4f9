-- One step of a search, as a function from state to state, and any number of steps.
-- A search keeps a stack of frames, one for each open position between its start and the present position.
-- What it has in hand says what the next step does: entering, absorbing or resuming; stepped chooses by it.
-- A state that no search comes to is left as it is.
use Rattle.std.specs.Prelude.{ℕ, zero, suc, ◌+◌, ◌-◌, ◌^◌, min, Bool, true, false, cond, List, [], ◌∷◌, length, Some, None, Option, bit_or, nat_lt}
use Rattle.lattice.specs.declared.bracket.Bracket.{Bracket}
use Rattle.lattice.specs.Scores.{Scoring}
use Rattle.lattice.specs.Windows.{point, whole, read_decided}
use Rattle.games.specs.declared.key.Key.{Key}
use Rattle.games.specs.declared.side.Side.{Side}
use Rattle.games.specs.declared.side.Side.TheVariants.{Max, Min}
use Rattle.games.specs.Trees.{Tree, Line, key_of, side_of, score_of, children_of, count, can_play, after_play}
use Rattle.tables.specs.declared.claim.Claim.{Claim}
use Rattle.tables.specs.Tables.{TableOps}
use Rattle.policies.specs.Policies.{PolicyOps}
use Rattle.search.specs.declared.frame.Frame.{Frame}
use Rattle.search.specs.declared.frame.Hand.{Hand}
use Rattle.search.specs.declared.frame.Hand.TheVariants.{Enter, Holding, Nothing}

-- the state of a search: game, table and policy by what they mean, frames and hand by the scores that they stand for
pub record Search (S C M P : Type 0) : Type 0 where
  pub line : Line S
  pub table : M
  pub policy : P
  -- the frames, the newest first, and the most that the stack holds
  pub frames : List (Frame C)
  pub places : ℕ
  pub hand : Hand C
  -- the positions entered and the claims used, each told up to 2 ^ 64 - 1
  pub entered : ℕ
  pub used : ℕ

-- one more, up to 2 ^ 64 - 1
abbrev pub more : ℕ → ℕ
more n = min (suc n) (2 ^ 64 - 1)

-- the set with the place p too, in a word of 64 bits
unfoldable pub with_place : ℕ → ℕ → ℕ
with_place t p = cond (nat_lt p 64) (bit_or t (2 ^ p)) t

module _ {C : Type 0} (o : Scoring C) where
  -- the bracket of a claim, if it reads as scores and decides the window
  abbrev pub claimed : Bracket C → Option Claim → Option (Bracket C)
  claimed w None = None
  claimed w (Some c) = read_decided o c.lo c.hi w

  -- the frame of no position, with every score in its window
  abbrev pub blank : Frame C
  blank = record { window = whole o; found = whole o; taken = record { 0 = 0 }; last = None }

  -- the bracket of a position before its first child
  abbrev pub start : Side → Bracket C
  start Max = record { lo = o.bottom; hi = o.bottom }
  start Min = record { lo = o.top; hi = o.top }

  abbrev pub opened : Bracket C → Side → Frame C
  opened w d = record { window = w; found = start d; taken = record { 0 = 0 }; last = None }

  -- the window for the next child
  abbrev pub narrowed : Side → Frame C → Bracket C
  narrowed Max f = record { lo = o.join f.window.lo f.found.lo; hi = f.window.hi }
  narrowed Min f = record { lo = f.window.lo; hi = o.meet f.window.hi f.found.hi }

  -- whether nothing is left of a window to ask about: its upper end is at or below its lower
  abbrev pub shut : Bracket C → Bool
  shut w = o.below w.hi w.lo

  -- the bracket of a position closed by a cut, whatever its other children are worth
  abbrev pub cut : Side → Frame C → Bracket C
  cut Max f = record { lo = f.found.lo; hi = o.top }
  cut Min f = record { lo = o.bottom; hi = f.found.hi }

  -- the bracket found, with one more child's; a position that is over has none
  abbrev pub folded : Option Side → Bracket C → Bracket C → Bracket C
  folded None a b = a
  folded (Some Max) a b = record { lo = o.join a.lo b.lo; hi = o.join a.hi b.hi }
  folded (Some Min) a b = record { lo = o.meet a.lo b.lo; hi = o.meet a.hi b.hi }

  -- the claim that the position with the key k has the bracket b
  abbrev pub claim : Key → Bracket C → Claim
  claim k b = record { key = k; lo = o.code b.lo; hi = o.code b.hi }

module _ {C : Type 0} where
  -- the frame once the child at the place n is taken
  abbrev pub marked : Frame C → ℕ → Frame C
  marked f n = record { window = f.window; found = f.found; taken = record { 0 = with_place f.taken.0 n }; last = Some n }

  -- the frame with another bracket found
  abbrev pub refound : Frame C → Bracket C → Frame C
  refound f b = record { window = f.window; found = b; taken = f.taken; last = f.last }

  -- the positions that the next step enters
  abbrev pub enters : Hand C → ℕ
  enters (Enter w) = 1
  enters (Holding b) = 0
  enters Nothing = 0

  -- a search is finished when no position is open and a bracket is in hand
  abbrev pub rests : List (Frame C) → Hand C → Bool
  rests [] (Holding b) = true
  rests [] (Enter w) = false
  rests [] Nothing = false
  rests (f ∷ fs) h = false

-- the policy once told that the child taken last closed its parent at this depth
abbrev pub noticed : {P : Type 0} → PolicyOps P → P → ℕ → Option ℕ → P
noticed ch p d None = p
noticed ch p d (Some n) = ch.notice p d n

module _ {S C M P : Type 0} where
  abbrev pub finished : Search S C M P → Bool
  finished s = rests s.frames s.hand

  -- the state with another line, table, policy, frames and hand
  abbrev pub moved : Search S C M P → Line S → M → P → List (Frame C) → Hand C → Search S C M P
  moved s l m p fs h =
      record { line = l; table = m; policy = p; frames = fs; places = s.places; hand = h; entered = s.entered; used = s.used }

  -- the state with one more position entered, u claims used, and other frames and hand
  abbrev pub counted : Search S C M P → ℕ → List (Frame C) → Hand C → Search S C M P
  counted s u fs h =
      record {
        line = s.line;
        table = s.table;
        policy = s.policy;
        frames = fs;
        places = s.places;
        hand = h;
        entered = more s.entered;
        used = u;
      }

module _ {S C M P : Type 0} (o : Scoring C) where
  -- enter a turn: a claim that decides the window is used; without one a frame is pushed, if there is room
  abbrev pub entering_turn : Search S C M P → Bracket C → Side → Option (Bracket C) → Search S C M P
  entering_turn s w d (Some b) = counted s (more s.used) s.frames (Holding b)
  entering_turn s w d None =
      cond (nat_lt (length s.frames) s.places) (counted s s.used (opened o w d ∷ s.frames) Nothing) s

  -- enter the present position, by its score or else its side to move
  abbrev pub entering : (S → C) → TableOps M → Search S C M P → Bracket C → Option S → Option Side → Search S C M P
  entering st tb s w (Some v) d = counted s s.used s.frames (Holding (point (st v)))
  entering st tb s w None None = s
  entering st tb s w None (Some d) = entering_turn s w d (claimed o w (tb.answer s.table (key_of s.line.present)))

  -- take back, and give the bracket in hand to the parent's frame, by the frames and the earlier positions
  abbrev pub absorbing : Search S C M P → Bracket C → List (Frame C) → List (Tree S) → Search S C M P
  absorbing s b [] ts = s
  absorbing s b (f ∷ fs) [] = s
  absorbing s b (f ∷ fs) (t ∷ ts) =
      moved s (record { present = t; earlier = ts }) s.table s.policy
      (refound f (folded o (side_of t) f.found b) ∷ fs)
      Nothing

  -- close the present position: its claim is put, its frame leaves the stack, and its bracket is in hand
  abbrev pub closed : TableOps M → Search S C M P → P → List (Frame C) → Bracket C → Search S C M P
  closed tb s p fs b =
      moved s s.line (tb.put s.table (claim o (key_of s.line.present) b)) p fs (Holding b)

  -- play the child that the policy chose; where it chose none, all are taken, and the position closes
  abbrev pub taking : TableOps M → Search S C M P → Side → Frame C → List (Frame C) → Option ℕ → Search S C M P
  taking tb s d f fs None = closed tb s s.policy fs f.found
  taking tb s d f fs (Some n) =
      cond (can_play s.line n)
      (moved s (after_play s.line n) s.table s.policy (marked f n ∷ fs) (Enter (narrowed o d f)))
      s

  -- go on with the newest frame, by the frames and the side to move: cut, or take another child
  abbrev pub resuming : TableOps M → PolicyOps P → Search S C M P → List (Frame C) → Option Side → Search S C M P
  resuming tb ch s [] d = s
  resuming tb ch s (f ∷ fs) None = s
  resuming tb ch s (f ∷ fs) (Some d) =
      cond (shut o (narrowed o d f))
      (closed tb s (noticed ch s.policy (length fs) f.last) fs (cut o d f))
      (taking tb s d f fs (ch.choose s.policy (length fs) f.taken.0 (count (children_of s.line.present))))

module _ {S C M P : Type 0} (o : Scoring C) (st : S → C) (tb : TableOps M) (ch : PolicyOps P) where
  abbrev pub stepped_by : Search S C M P → Hand C → Search S C M P
  stepped_by s (Enter w) = entering o st tb s w (score_of s.line.present) (side_of s.line.present)
  stepped_by s (Holding b) = absorbing o s b s.frames s.line.earlier
  stepped_by s Nothing = resuming o tb ch s s.frames (side_of s.line.present)

  -- one step
  abbrev pub stepped : Search S C M P → Search S C M P
  stepped s = stepped_by s s.hand

  -- n steps, or fewer if the search is finished before: the state after them,
  abbrev pub ran : ℕ → Search S C M P → Search S C M P
  ran zero s = s
  ran (suc n) s = cond (finished s) s (ran n (stepped s))

  -- the steps done,
  abbrev pub done : ℕ → Search S C M P → ℕ
  done zero s = 0
  done (suc n) s = cond (finished s) 0 (suc (done n (stepped s)))

  -- and the positions entered
  abbrev pub entries : ℕ → Search S C M P → ℕ
  entries zero s = 0
  entries (suc n) s = cond (finished s) 0 (enters s.hand + entries n (stepped s))
