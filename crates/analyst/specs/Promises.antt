-- What is promised of any sequence of calls, whatever the game, the scores, the table and the policy.
use Rattle.std.specs.Prelude.{◌≡◌, ℕ, ◌+◌, ◌*◌, ◌≤◌, true, false, cond, Some, None, Ok, Option, Result}
use Rattle.lattice.specs.Scores.{Scoring}
use Rattle.lattice.specs.Windows.{clamped}
use Rattle.games.specs.Trees.{Line, size, plain, loaded}
use Rattle.tables.specs.Tables.{TableOps}
use Rattle.policies.specs.Policies.{PolicyOps}
use Rattle.search.specs.Invariant.{Honest}
use Rattle.search.specs.Promises.{Tells}
use Rattle.analyst.specs.declared.analyst.Open.{Open}
use Rattle.analyst.specs.declared.ended.Ran.{Ran}
use Rattle.analyst.specs.declared.ended.Ended.{Ended}
use Rattle.analyst.specs.declared.refusal.Refusal.{Refusal}
use Rattle.analyst.specs.Calls.{State, Stack, Free, AfterRun, AfterEnd, runs, ends, none_open, left}
use Rattle.analyst.specs.Histories.{Account, Standing, line_at, account_at, open_after, greatest_job, Own, History}

-- a run that names n steps, answers r and enters e positions, after the calls of the account c
pub record RunRight {S C : Type 0} (c : Account S C) (n : ℕ) (r : Ran) (e : ℕ) : Type 0 where
  -- once four steps are granted for each position of the tree, it says finished
  pub ends : 4 * size c.position ≤ c.granted + n → r.finished ≡ true
  -- a search that said finished says so again
  pub stays : c.said_finished ≡ true → r.finished ≡ true
  -- with this run's, no more positions are entered than the tree has
  pub few : c.entered + e ≤ size c.position
  -- it does no more steps than are named, and all of them unless it says finished
  pub within : r.steps ≤ n
  pub all : r.finished ≡ false → r.steps ≡ n

module _ {S C : Type 0} (o : Scoring C) (st : S → C) where
  -- an end that answers e, after the calls of the account c
  pub record EndRight (c : Account S C) (e : Ended C) : Type 0 where
    -- it has a value exactly if a run said finished: the clamp of the plain value of the position where the search began
    pub value : e.value ≡ cond c.said_finished (Some (clamped o c.window (plain o st c.position))) None
    -- no more positions were entered than the tree has, and the answer tells how many, up to 2 ^ 64 - 1
    pub few : c.entered ≤ size c.position
    pub told : Tells e.entered c.entered

  -- there is an account, and it is so
  pub record Told (v : Option (Account S C)) (Q : Account S C → Type 0) : Type 0 where
    pub account : Account S C
    pub is : v ≡ Some account
    pub holds : Q account

module _ {G S C M P : Type 0} (line : G → Line S) (o : Scoring C) (st : S → C) (tb : TableOps M) (ch : PolicyOps P) where
  -- whatever history led to the analyst a and the stack k: if a run of n steps with the ticket j answers r, it is right
  abbrev pub RunsRight : State S C M P → ℕ → Stack C → ℕ → Result Ran Refusal → Type 0
  RunsRight a j k n r =
      (x : Standing S C M P) → History line o st tb ch x → x.state ≡ a → Own x k
      → (y : Ran) → r ≡ Ok y → Told o st (account_at x) (λ c. RunRight c n y (left (λ z. z.entered) 0 (runs o st tb ch a j k n)))

  -- and if an end answers r, it is right
  abbrev pub EndsRight : {E : Type 0} → State S C M P → Stack C → Result (Ended C) E → Type 0
  EndsRight a k r =
      (x : Standing S C M P) → History line o st tb ch x → x.state ≡ a → Own x k
      → (y : Ended C) → r ≡ Ok y → Told o st (account_at x) (λ c. EndRight o st c y)

  -- the open search has a busy stack; with it and the search's own ticket, run and end are accepted
  pub record Accepted (x : Standing S C M P) (s : Open C) : Type 0 where
    pub stack : Stack C
    pub busy : x.busy ≡ Some stack
    pub run : (n : ℕ) → (y : AfterRun S C M P) × (runs o st tb ch x.state s.job stack n ≡ Ok y)
    pub end : (y : AfterEnd S C M P) × (ends o x.state s.job stack ≡ Ok y)

  -- an end that comes to y leaves the stack that it was given free, and the table and the policy as they were
  pub record Freed (a : State S C M P) (k : Stack C) (y : AfterEnd S C M P) : Type 0 where
    pub ended : y.state.search ≡ None
    pub free : Free y.stack
    pub places : y.stack.places ≡ k.places
    pub table : y.state.table ≡ a.table
    pub policy : y.state.policy ≡ a.policy

  pub record Promise : Type 0 where
    -- every accepted end and every accepted run answers what is right for the calls before it
    pub at_end : (x : Standing S C M P) → History line o st tb ch x → (j : ℕ) (k : Stack C) → Own x k
        → (y : AfterEnd S C M P) → ends o x.state j k ≡ Ok y → Told o st (account_at x) (λ c. EndRight o st c y.answer)
    pub at_run : (x : Standing S C M P) → History line o st tb ch x → (j : ℕ) (k : Stack C) (n : ℕ) → Own x k
        → (y : AfterRun S C M P) → runs o st tb ch x.state j k n ≡ Ok y → Told o st (account_at x) (λ c. RunRight c n y.answer y.entered)
    -- a search is open exactly if the calls say so, and the greatest job is the greatest accepted
    pub opens : (x : Standing S C M P) → History line o st tb ch x → none_open x.state.search ≡ cond (open_after x.events) false true
    pub jobs : (x : Standing S C M P) → History line o st tb ch x → x.state.jobs ≡ greatest_job x.events
    -- while none is open, the game stands where the plain list of positions says, and no stack is busy
    pub at_rest : (x : Standing S C M P) → History line o st tb ch x → x.state.search ≡ None
        → (x.state.line ≡ line_at x) × (x.busy ≡ None)
    -- while one is open, its own ticket and stack are accepted
    pub own_accepted : (x : Standing S C M P) → History line o st tb ch x → (s : Open C) → x.state.search ≡ Some s → Accepted x s
    pub end_frees : (a : State S C M P) (j : ℕ) (k : Stack C) (y : AfterEnd S C M P) → ends o a j k ≡ Ok y → Freed a k y
    -- every claim in the table is true of the positions with its key that come after the loaded one
    pub claims : (x : Standing S C M P) → History line o st tb ch x → Honest o st tb (loaded (line_at x)) x.state.table
