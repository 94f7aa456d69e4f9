-- What holds of every standing that calls lead to.
use Rattle.std.proofs.Common.{◌≡◌, ℕ, ◌+◌, ◌*◌, ◌≤◌, Bool, true, false, length, Some, None, Option}
use Rattle.lattice.specs.Scores.{Scoring}
use Rattle.games.specs.Trees.{Line, Lawful, size, loaded}
use Rattle.tables.specs.Tables.{TableOps}
use Rattle.search.specs.Invariant.{Honest, Invariant, to_enter, to_do}
use Rattle.search.specs.Promises.{Tells}
use Rattle.search.specs.Steps.{finished}
use Rattle.analyst.specs.declared.analyst.Open.{Open}
use Rattle.analyst.specs.Calls.{State, Stack, searching}
use Rattle.analyst.specs.Histories.{Account, Standing, line_at, account_at, open_after, greatest_job}

module _ {S C M P : Type 0} (o : Scoring C) (st : S → C) (tb : TableOps M) where
  -- no search is open, and the game stands at the line base
  pub record Rested (base : Line S) (a : State S C M P) (q : Option (Stack C)) (open? : Bool) : Type 0 where
    pub same : a.line ≡ base
    pub idle : q ≡ None
    pub told : open? ≡ false

  -- the search s, begun at the line base, with the stack p
  pub record Busy (base : Line S) (c : Option (Account S C)) (a : State S C M P) (s : Open C) (p : Stack C) : Type 0 where
    pub numbered : 1 ≤ s.job
    -- ticket and stack are its own
    pub job_same : p.job ≡ s.job
    pub places_same : p.places ≡ s.places
    pub depth_same : length p.frames ≡ s.depth
    pub invariant : Invariant o st tb base s.window (searching a s p)
    -- the account of the calls, and what is left to do and to enter
    pub granted : ℕ
    pub entered : ℕ
    pub accounted : c ≡ Some (record {
      position = base.present;
      window = s.window;
      granted = granted;
      entered = entered;
      said_finished = finished (searching a s p);
    })
    pub steps : finished (searching a s p) ≡ false → to_do (searching a s p) + granted ≤ 4 * size base.present
    pub few : entered + to_enter (searching a s p) ≤ size base.present
    pub told : Tells s.progress.entered entered

  abbrev pub Stands : Line S → Option (Account S C) → State S C M P → Option (Stack C) → Bool → Option (Open C) → Type 0
  Stands base c a q open? None = Rested base a q open?
  Stands base c a q open? (Some s) = (p : Stack C) × (q ≡ Some p) × (open? ≡ true) × Busy base c a s p

  pub record Sound (x : Standing S C M P) : Type 0 where
    pub lawful : Lawful (line_at x)
    pub honest : Honest o st tb (loaded (line_at x)) x.state.table
    pub jobs : x.state.jobs ≡ greatest_job x.events
    pub stands : Stands (line_at x) (account_at x) x.state x.busy (open_after x.events) x.state.search
