-- Any sequence of calls on one analyst, as it was made at first, and what is read from the calls alone.
-- An event is one call with its answer; a standing is the events so far, with the analyst and the stack after them.
-- History x says that calls lead to the standing x. line_after and account read from the events, never from the analyst,
-- where the game should stand and what has come of the latest search.
use Rattle.std.specs.Prelude.{◌≡◌, ℕ, ◌+◌, max, Bool, true, false, cond, ◌⊎◌, List, [], ◌∷◌, Some, None, Ok, Err, Option, Result}
use Rattle.lattice.specs.declared.bracket.Bracket.{Bracket}
use Rattle.lattice.specs.Scores.{Scoring}
use Rattle.games.specs.Trees.{Tree, Line, child, after_take_back}
use Rattle.tables.specs.Tables.{TableOps}
use Rattle.policies.specs.Policies.{PolicyOps}
use Rattle.analyst.specs.declared.ended.Ran.{Ran}
use Rattle.analyst.specs.declared.ended.Ended.{Ended}
use Rattle.analyst.specs.declared.refusal.Refusal.{Refusal}
use Rattle.analyst.specs.Calls.{State, Stack, Free, makes, loads, plays, takes_back, begins, runs, ends, clears}

-- an accepted call with what it was given and answered, or a refused one
pub data Event (S C : Type 0) : Type 0 where
  loaded : Line S → Event S C
  played : ℕ → Event S C
  took_back : Event S C
  -- the job and the window
  began : ℕ → Bracket C → Event S C
  -- the steps named, the answer, and the positions entered
  ran_for : ℕ → Ran → ℕ → Event S C
  ended : Ended C → Event S C
  cleared : Event S C
  refused : Refusal → Event S C

-- the latest search, as the events tell of it
pub record Account (S C : Type 0) : Type 0 where
  -- where it began, and its window
  pub position : Tree S
  pub window : Bracket C
  -- the steps named by its runs, added up, and the positions that they entered
  pub granted : ℕ
  pub entered : ℕ
  -- whether a run said that it is finished
  pub said_finished : Bool

-- the line with the child at the place n put first
abbrev pub child_first : {S : Type 0} → Line S → ℕ → Line S
child_first l n = record { present = child l.present n; earlier = l.present ∷ l.earlier }

-- events are listed newest first
module _ {S C : Type 0} where
  -- the plain list of positions: the line loaded last, with each play put first and each play taken back removed
  abbrev pub line_after : Line S → List (Event S C) → Line S
  line_after l [] = l
  line_after l (loaded m ∷ es) = m
  line_after l (played n ∷ es) = child_first (line_after l es) n
  line_after l (took_back ∷ es) = after_take_back (line_after l es)
  line_after l (began j w ∷ es) = line_after l es
  line_after l (ran_for n r e ∷ es) = line_after l es
  line_after l (ended e ∷ es) = line_after l es
  line_after l (cleared ∷ es) = line_after l es
  line_after l (refused r ∷ es) = line_after l es

  -- a search at its beginning
  abbrev pub new_account : Tree S → Bracket C → Account S C
  new_account t w = record { position = t; window = w; granted = 0; entered = 0; said_finished = false }

  -- the account with one more run: n steps named, its answer, e positions entered
  abbrev pub with_run : ℕ → Ran → ℕ → Account S C → Account S C
  with_run n r e c =
      record {
        position = c.position;
        window = c.window;
        granted = c.granted + n;
        entered = c.entered + e;
        said_finished = cond r.finished true c.said_finished;
      }

  abbrev pub some_with_run : ℕ → Ran → ℕ → Option (Account S C) → Option (Account S C)
  some_with_run n r e None = None
  some_with_run n r e (Some c) = Some (with_run n r e c)

  -- the account of the latest search
  abbrev pub account : Line S → List (Event S C) → Option (Account S C)
  account l [] = None
  account l (began j w ∷ es) = Some (new_account (line_after l es).present w)
  account l (ran_for n r e ∷ es) = some_with_run n r e (account l es)
  account l (loaded m ∷ es) = account l es
  account l (played n ∷ es) = account l es
  account l (took_back ∷ es) = account l es
  account l (ended e ∷ es) = account l es
  account l (cleared ∷ es) = account l es
  account l (refused r ∷ es) = account l es

  -- whether a search is open: begun and not ended
  abbrev pub open_after : List (Event S C) → Bool
  open_after [] = false
  open_after (began j w ∷ es) = true
  open_after (ended e ∷ es) = false
  open_after (loaded m ∷ es) = open_after es
  open_after (played n ∷ es) = open_after es
  open_after (took_back ∷ es) = open_after es
  open_after (ran_for n r e ∷ es) = open_after es
  open_after (cleared ∷ es) = open_after es
  open_after (refused r ∷ es) = open_after es

  -- the greatest job accepted, or 0
  abbrev pub greatest_job : List (Event S C) → ℕ
  greatest_job [] = 0
  greatest_job (began j w ∷ es) = max j (greatest_job es)
  greatest_job (ended e ∷ es) = greatest_job es
  greatest_job (loaded m ∷ es) = greatest_job es
  greatest_job (played n ∷ es) = greatest_job es
  greatest_job (took_back ∷ es) = greatest_job es
  greatest_job (ran_for n r e ∷ es) = greatest_job es
  greatest_job (cleared ∷ es) = greatest_job es
  greatest_job (refused r ∷ es) = greatest_job es

-- where calls have led
pub record Standing (S C M P : Type 0) : Type 0 where
  -- the line that the analyst was made with, and the events since
  pub first : Line S
  pub events : List (Event S C)
  -- the analyst, and the stack that its open search keeps busy
  pub state : State S C M P
  pub busy : Option (Stack C)

module _ {S C M P : Type 0} where
  -- the plain list of positions, and the account of the latest search
  abbrev pub line_at : Standing S C M P → Line S
  line_at x = line_after x.first x.events

  abbrev pub account_at : Standing S C M P → Option (Account S C)
  account_at x = account x.first x.events

  -- a stack that a call may be given: a free one, or the one that this analyst keeps busy
  abbrev pub Own : Standing S C M P → Stack C → Type 0
  Own x k = Free k ⊎ (x.busy ≡ Some k)

  -- one more event, after which the analyst is a and the busy stack q
  abbrev pub next : Standing S C M P → Event S C → State S C M P → Option (Stack C) → Standing S C M P
  next x e a q = record { first = x.first; events = e ∷ x.events; state = a; busy = q }

  -- after a call that comes to r: accepted, as f says; refused, with the analyst and the stack as they were
  abbrev pub told : {A : Type 0} → Standing S C M P → (A → Standing S C M P) → Result A Refusal → Standing S C M P
  told x f (Ok y) = f y
  told x f (Err r) = next x (refused r) x.state x.busy

  -- after each call, whether it is accepted or refused
  abbrev pub after_load : TableOps M → Standing S C M P → Line S → Standing S C M P
  after_load tb x l = told x (λ a. next x (loaded l) a x.busy) (loads tb x.state l)

  abbrev pub after_played : Standing S C M P → ℕ → Standing S C M P
  after_played x n = told x (λ a. next x (played n) a x.busy) (plays x.state n)

  abbrev pub after_taken_back : Standing S C M P → Standing S C M P
  after_taken_back x = told x (λ a. next x took_back a x.busy) (takes_back x.state)

  abbrev pub after_begin : Scoring C → Standing S C M P → ℕ → Bracket C → Stack C → Standing S C M P
  after_begin o x j w k = told x (λ y. next x (began j w) y.state (Some y.stack)) (begins o x.state j w k)

  abbrev pub after_run : Scoring C → (S → C) → TableOps M → PolicyOps P → Standing S C M P → ℕ → Stack C → ℕ → Standing S C M P
  after_run o st tb ch x j k n =
      told x (λ y. next x (ran_for n y.answer y.entered) y.state (Some y.stack)) (runs o st tb ch x.state j k n)

  abbrev pub after_end : Scoring C → Standing S C M P → ℕ → Stack C → Standing S C M P
  after_end o x j k = told x (λ y. next x (ended y.answer) y.state None) (ends o x.state j k)

  abbrev pub after_clear : TableOps M → Standing S C M P → Standing S C M P
  after_clear tb x = next x cleared (clears tb x.state) x.busy

-- the standings that calls lead to, with games G whose lines `line` gives
module _ {G S C M P : Type 0} (line : G → Line S) (o : Scoring C) (st : S → C) (tb : TableOps M) (ch : PolicyOps P) where
  pub data History : Standing S C M P → Type 0 where
    made : (g : G) (m : M) (p : P)
        → History (record { first = line g; events = []; state = makes tb (line g) m p; busy = None })
    load : {x : Standing S C M P} (g : G) → History x → History (after_load tb x (line g))
    play : {x : Standing S C M P} (n : ℕ) → History x → History (after_played x n)
    take_back : {x : Standing S C M P} → History x → History (after_taken_back x)
    begin : {x : Standing S C M P} (j : ℕ) (w : Bracket C) (k : Stack C) → Own x k → History x → History (after_begin o x j w k)
    run : {x : Standing S C M P} (j : ℕ) (k : Stack C) (n : ℕ) → Own x k → History x → History (after_run o st tb ch x j k n)
    end : {x : Standing S C M P} (j : ℕ) (k : Stack C) → Own x k → History x → History (after_end o x j k)
    clear : {x : Standing S C M P} → History x → History (after_clear tb x)
