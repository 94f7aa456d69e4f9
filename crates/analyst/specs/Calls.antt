-- The calls on an analyst, as functions on meanings: make, load, play, take back, begin, run, end and clear.
-- Each comes to what the analyst and the stack are after it, or to a refusal, after which both are as they were.
-- A search is begun with a job number and a free stack; its ticket is that number, and run and end ask for it again.
use Rattle.std.specs.Prelude.{◌≡◌, ℕ, Bool, true, false, ◌&&◌, List, [], ◌∷◌, length, Some, None, Ok, Err, Option, Result, ◌==◌, nat_lt}
use Rattle.lattice.specs.declared.bracket.Bracket.{Bracket}
use Rattle.lattice.specs.Scores.{Scoring}
use Rattle.lattice.specs.Windows.{clamped}
use Rattle.games.specs.Trees.{Line, height_of, can_play, after_play, can_take_back, after_take_back}
use Rattle.tables.specs.Tables.{TableOps}
use Rattle.policies.specs.Policies.{PolicyOps}
use Rattle.search.specs.declared.frame.Frame.{Frame}
use Rattle.search.specs.declared.frame.Hand.{Hand}
use Rattle.search.specs.declared.frame.Hand.TheVariants.{Enter, Holding, Nothing}
use Rattle.search.specs.Steps.{Search, finished, ran, done, entries}
use Rattle.search.specs.Promises.{backs, plays as plays_since}
use Rattle.analyst.specs.declared.analyst.Open.{Open}
use Rattle.analyst.specs.declared.ended.Ran.{Ran}
use Rattle.analyst.specs.declared.ended.Ended.{Ended}
use Rattle.analyst.specs.declared.refusal.Refusal.{Refusal}
use Rattle.analyst.specs.declared.refusal.Refusal.TheVariants.{SearchOpen, NoSuchPlace, NothingToTakeBack, JobNotNew, WindowNotOrdered, StackNotFree, StackTooSmall, NotThisSearch}
use Rattle.analyst.specs.Questions.{◌unless◌, asked}

-- what an analyst means
pub record State (S C M P : Type 0) : Type 0 where
  pub line : Line S
  pub table : M
  pub policy : P
  -- the greatest job accepted so far
  pub jobs : ℕ
  -- what is kept of the open search; its frames are on the stack
  pub search : Option (Open C)

-- what a search stack means
pub record Stack (C : Type 0) : Type 0 where
  -- how many frames it can hold
  pub places : ℕ
  -- the job that it is busy with, or 0
  pub job : ℕ
  -- its open frames, the newest first
  pub frames : List (Frame C)

module _ {C : Type 0} where
  -- a free stack, as a new one is
  abbrev pub free_stack : ℕ → Stack C
  free_stack n = record { places = n; job = 0; frames = [] }

  abbrev pub Free : Stack C → Type 0
  Free k = k ≡ free_stack k.places

  abbrev pub is_free : Stack C → Bool
  is_free k = k.job == 0 && length k.frames == 0

  abbrev pub marked : Stack C → ℕ → Stack C
  marked k j = record { places = k.places; job = j; frames = k.frames }

  -- whether no search is open
  abbrev pub none_open : Option (Open C) → Bool
  none_open None = true
  none_open (Some s) = false

  -- the job of the open search, or n where none is open
  abbrev pub open_job : Option (Open C) → ℕ → ℕ
  open_job None n = n
  open_job (Some s) n = s.job

  -- whether the ticket j and the stack k are those of the search s, the stack as the last call left it
  abbrev pub matches : Open C → ℕ → Stack C → Bool
  matches s j k =
      (j == s.job) && (k.job == s.job && (k.places == s.places && length k.frames == s.depth))

  -- a search that has not done a step
  abbrev pub opening : ℕ → Bracket C → ℕ → Open C
  opening j w n = record { job = j; window = w; progress = record { hand = Enter w; entered = 0; used = 0 }; places = n; depth = 0 }

-- what begin, run and end come to
pub record AfterBegin (S C M P : Type 0) : Type 0 where
  pub state : State S C M P
  pub stack : Stack C

pub record AfterRun (S C M P : Type 0) : Type 0 where
  pub state : State S C M P
  pub stack : Stack C
  pub answer : Ran
  -- the positions that this run entered, which is no part of the answer
  pub entered : ℕ

pub record AfterEnd (S C M P : Type 0) : Type 0 where
  pub state : State S C M P
  pub stack : Stack C
  pub answer : Ended C

-- a new analyst, with a line, a table and a policy; its table is cleared
abbrev pub makes : {S C M P : Type 0} → TableOps M → Line S → M → P → State S C M P
makes tb l m p = record { line = l; table = tb.clear m; policy = p; jobs = 0; search = None }

module _ {S C M P : Type 0} where
  -- no search open, another line and another table
  abbrev pub placed : State S C M P → Line S → M → State S C M P
  placed a l m = record { line = l; table = m; policy = a.policy; jobs = a.jobs; search = None }

  -- load: another line; the table is cleared
  abbrev pub loads : TableOps M → State S C M P → Line S → Result (State S C M P) Refusal
  loads tb a l = asked (SearchOpen unless none_open a.search ∷ []) (placed a l (tb.clear a.table))

  -- play: to the child at a place
  abbrev pub plays : State S C M P → ℕ → Result (State S C M P) Refusal
  plays a n =
      asked (SearchOpen unless none_open a.search ∷ NoSuchPlace unless can_play a.line n ∷ [])
      (placed a (after_play a.line n) a.table)

  -- take back: to the position before the present one
  abbrev pub takes_back : State S C M P → Result (State S C M P) Refusal
  takes_back a =
      asked (SearchOpen unless none_open a.search ∷ NothingToTakeBack unless can_take_back a.line ∷ [])
      (placed a (after_take_back a.line) a.table)

  -- begin: a search of the present position, with the job number j, the window w and the stack k
  abbrev pub begun : State S C M P → ℕ → Bracket C → Stack C → AfterBegin S C M P
  begun a j w k =
      record {
        state = record { line = a.line; table = a.table; policy = a.policy; jobs = j; search = Some (opening j w k.places) };
        stack = marked k j;
      }

  abbrev pub begins : Scoring C → State S C M P → ℕ → Bracket C → Stack C → Result (AfterBegin S C M P) Refusal
  begins o a j w k =
      asked
      (SearchOpen unless none_open a.search
      ∷ JobNotNew unless nat_lt a.jobs j
      ∷ WindowNotOrdered unless o.below w.lo w.hi
      ∷ StackNotFree unless is_free k
      ∷ StackTooSmall unless nat_lt (height_of a.line.present) k.places
      ∷ [])
      (begun a j w k)

  -- the state of the open search s, whose stack is k
  abbrev pub searching : State S C M P → Open C → Stack C → Search S C M P
  searching a s k =
      record {
        line = a.line;
        table = a.table;
        policy = a.policy;
        frames = k.frames;
        places = k.places;
        hand = s.progress.hand;
        entered = s.progress.entered;
        used = s.progress.used;
      }

  -- a run that leaves the search in the state x, after n steps that entered e positions
  abbrev pub stopped : State S C M P → Open C → Stack C → Search S C M P → ℕ → ℕ → AfterRun S C M P
  stopped a s k x n e =
      record {
        state = record {
          line = x.line;
          table = x.table;
          policy = x.policy;
          jobs = a.jobs;
          search = Some (record {
            job = s.job;
            window = s.window;
            progress = record { hand = x.hand; entered = x.entered; used = x.used };
            places = s.places;
            depth = length x.frames;
          });
        };
        stack = record { places = x.places; job = k.job; frames = x.frames };
        answer = record { steps = n; finished = finished x };
        entered = e;
      }

-- run: up to n steps of the search that has the ticket j and the stack k
module _ {S C M P : Type 0} (o : Scoring C) (st : S → C) (tb : TableOps M) (ch : PolicyOps P) where
  abbrev pub runs_of : State S C M P → ℕ → Stack C → ℕ → Option (Open C) → Result (AfterRun S C M P) Refusal
  runs_of a j k n None = Err NotThisSearch
  runs_of a j k n (Some s) =
      let x : Search S C M P = searching a s k in
      asked (NotThisSearch unless matches s j k ∷ [])
      (stopped a s k (ran o st tb ch n x) (done o st tb ch n x) (entries o st tb ch n x))

  abbrev pub runs : State S C M P → ℕ → Stack C → ℕ → Result (AfterRun S C M P) Refusal
  runs a j k n = runs_of a j k n a.search

-- the value of a search with the window w, if it is finished: the clamp of the lower end of the bracket in hand
abbrev pub value_of : {C : Type 0} → Scoring C → Bracket C → List (Frame C) → Hand C → Option C
value_of o w [] (Enter v) = None
value_of o w [] (Holding b) = Some (clamped o w b.lo)
value_of o w [] Nothing = None
value_of o w (f ∷ fs) h = None

-- what an end answers of the search s, whose stack is k
abbrev pub ending : {C : Type 0} → Scoring C → Open C → Stack C → Ended C
ending o s k =
    record { entered = s.progress.entered; used = s.progress.used; value = value_of o s.window k.frames s.progress.hand }

-- end: back to where the search began; the stack is free again, and nothing is put into the table
module _ {S C M P : Type 0} (o : Scoring C) where
  abbrev pub closed : State S C M P → Open C → Stack C → AfterEnd S C M P
  closed a s k =
      record {
        state = placed a (backs (plays_since s.progress.hand (length k.frames)) a.line) a.table;
        stack = free_stack k.places;
        answer = ending o s k;
      }

  abbrev pub ends_of : State S C M P → ℕ → Stack C → Option (Open C) → Result (AfterEnd S C M P) Refusal
  ends_of a j k None = Err NotThisSearch
  ends_of a j k (Some s) = asked (NotThisSearch unless matches s j k ∷ []) (closed a s k)

  abbrev pub ends : State S C M P → ℕ → Stack C → Result (AfterEnd S C M P) Refusal
  ends a j k = ends_of a j k a.search

-- the ticket j and the stack k are those of the open search of a: run and end are then accepted
pub record Mine {S C M P : Type 0} (a : State S C M P) (j : ℕ) (k : Stack C) : Type 0 where
  pub underway : Open C
  pub is : a.search ≡ Some underway
  pub own : matches underway j k ≡ true

-- clear: the table; an open search stays open
abbrev pub clears : {S C M P : Type 0} → TableOps M → State S C M P → State S C M P
clears tb a =
    record { line = a.line; table = tb.clear a.table; policy = a.policy; jobs = a.jobs; search = a.search }

-- the answer of a call that comes to r, and what it leaves of what was x: that itself where the call is refused
module _ {A B E : Type 0} where
  abbrev pub answered : (A → B) → Result A E → Result B E
  answered f (Ok y) = Ok (f y)
  answered f (Err e) = Err e

  abbrev pub left : (A → B) → B → Result A E → B
  left f x (Ok y) = f y
  left f x (Err e) = x
