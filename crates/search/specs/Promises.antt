-- What a search promises, for any scores, game, table and policy that keep to their laws.
use Rattle.std.specs.Prelude.{◌≡◌, ℕ, zero, suc, ◌+◌, ◌-◌, ◌*◌, ◌^◌, ◌<◌, ◌≤◌, min, true, false, [], length}
use Rattle.lattice.specs.declared.bracket.Bracket.{Bracket}
use Rattle.lattice.specs.Scores.{Scoring}
use Rattle.lattice.specs.Windows.{Around, clamped, decided}
use Rattle.games.specs.Trees.{Line, height_of, size, plain, loaded, after_take_back, Lawful}
use Rattle.tables.specs.Tables.{TableOps}
use Rattle.policies.specs.Policies.{PolicyOps}
use Rattle.search.specs.declared.frame.Hand.{Hand}
use Rattle.search.specs.declared.frame.Hand.TheVariants.{Enter, Holding, Nothing}
use Rattle.search.specs.Steps.{Search, enters, finished, stepped, ran, done, entries}
use Rattle.search.specs.Invariant.{Waits, Honest, Invariant, to_enter, to_do}

-- a search of the line's present position that has not done a step
abbrev pub began : {S C M P : Type 0} → Line S → Bracket C → M → P → ℕ → Search S C M P
began l w m p n = record { line = l; table = m; policy = p; frames = []; places = n; hand = Enter w; entered = 0; used = 0 }

-- the line with n plays taken back
abbrev pub backs : {S : Type 0} → ℕ → Line S → Line S
backs zero l = l
backs (suc n) l = backs n (after_take_back l)

-- the plays from where a search began to the present position, with n frames open
abbrev pub plays : {C : Type 0} → Hand C → ℕ → ℕ
plays (Enter w) n = n
plays (Holding b) n = n
plays Nothing n = n - 1

-- n counts x, told up to 2 ^ 64 - 1
abbrev pub Tells : ℕ → ℕ → Type 0
Tells n x = n ≡ min x (2 ^ 64 - 1)

module _ {S C M P : Type 0} (o : Scoring C) (st : S → C) (tb : TableOps M) where
  module _ (base : Line S) (w₀ : Bracket C) where
    -- a step leads from s to z: it keeps the invariant, and comes nearer to the end
    pub record Kept (s z : Search S C M P) : Type 0 where
      pub keeps : Invariant o st tb base w₀ z
      pub few : enters s.hand + to_enter z ≤ to_enter s
      pub falls : to_do z < to_do s
      pub told : (x : ℕ) → Tells s.entered x → Tells z.entered (x + enters s.hand)

    -- n steps granted, with e positions entered, lead from s to z
    pub record Went (n e : ℕ) (s z : Search S C M P) : Type 0 where
      pub keeps : Invariant o st tb base w₀ z
      pub few : e + to_enter z ≤ to_enter s
      pub falls : finished z ≡ false → to_do z + n ≤ to_do s
      pub told : (x : ℕ) → Tells s.entered x → Tells z.entered (x + e)
      pub stays : finished s ≡ true → finished z ≡ true

    -- a bracket in hand: it holds the value of the present position, and decides the window that this was entered with
    pub record InHand (s : Search S C M P) (b : Bracket C) : Type 0 where
      pub holds : Around o b (plain o st s.line.present)
      pub window : Bracket C
      pub asked : Waits o st base w₀ s.line.present s.line.earlier window s.frames
      pub decides : decided o window b ≡ true

    -- a finished search of base with the window w₀: the game stands where it began, and the bracket in hand
    -- holds its value and decides the window, so that the clamp of its lower end is the clamp of the value
    pub record Answers (s : Search S C M P) (b : Bracket C) : Type 0 where
      pub back : s.line ≡ base
      pub holds : Around o b (plain o st base.present)
      pub decides : decided o w₀ b ≡ true
      pub value : clamped o w₀ b.lo ≡ clamped o w₀ (plain o st base.present)

  -- a step of a search s that is not finished keeps its invariant and leads on to z
  abbrev pub StepKeeps : Search S C M P → Search S C M P → Type 0
  StepKeeps s z = (base : Line S) (w₀ : Bracket C) → Lawful base → Invariant o st tb base w₀ s → finished s ≡ false → Kept base w₀ s z

  -- n steps granted, in which e positions are entered, keep the invariant of s and lead on from it to z
  abbrev pub RunKeeps : ℕ → ℕ → Search S C M P → Search S C M P → Type 0
  RunKeeps n e s z = (base : Line S) (w₀ : Bracket C) → Lawful base → Invariant o st tb base w₀ s → Went base w₀ n e s z

  -- l is the line where the search s began
  abbrev pub Home : Search S C M P → Line S → Type 0
  Home s l = (base : Line S) (w₀ : Bracket C) → Invariant o st tb base w₀ s → l ≡ base

  -- a search of base once n steps are granted: it entered at most as many positions as there are and tells how many,
  -- and it is finished, with its answer, once four steps are granted for each position
  pub record Searched (base : Line S) (w₀ : Bracket C) (n e : ℕ) (z : Search S C M P) : Type 0 where
    pub few : e ≤ size base.present
    pub told : Tells z.entered e
    pub ends : 4 * size base.present ≤ n → finished z ≡ true
    pub answers : finished z ≡ true → (b : Bracket C) × (z.hand ≡ Holding b) × Answers base w₀ z b
    pub honest : Honest o st tb (loaded base) z.table

  -- the whole of it
  pub record Promise (ch : PolicyOps P) : Type 0 where
    -- a step keeps the invariant, and so do any number of steps
    pub step : (s : Search S C M P) → StepKeeps s (stepped o st tb ch s)
    pub run : (n : ℕ) (s : Search S C M P) → RunKeeps n (entries o st tb ch n s) s (ran o st tb ch n s)
    -- no more steps are done than are granted, and all of them where the search is not finished
    pub steps : (n : ℕ) (s : Search S C M P)
        → (done o st tb ch n s ≤ n) × (finished (ran o st tb ch n s) ≡ false → done o st tb ch n s ≡ n)
    -- every bracket in hand is true of the present position and decides its window
    pub hand : (base : Line S) (w₀ : Bracket C) (s : Search S C M P) → Invariant o st tb base w₀ s
        → (b : Bracket C) → s.hand ≡ Holding b → InHand base w₀ s b
    -- every claim in the table is true of the positions with its key that come after the loaded one
    pub claims : (base : Line S) (w₀ : Bracket C) (s : Search S C M P) → Invariant o st tb base w₀ s
        → Honest o st tb (loaded base) s.table
    -- the plays of the search, taken back, lead to where it began
    pub back : (base : Line S) (w₀ : Bracket C) (s : Search S C M P) → Invariant o st tb base w₀ s
        → backs (plays s.hand (length s.frames)) s.line ≡ base
    -- where the search is finished, the bracket in hand answers for the position where it began
    pub finish : (base : Line S) (w₀ : Bracket C) (s : Search S C M P) → Invariant o st tb base w₀ s → finished s ≡ true
        → (b : Bracket C) × (s.hand ≡ Holding b) × Answers base w₀ s b
    -- a search over a table with no false claim, and a stack with more places than its position is high, comes to its end
    pub search : (base : Line S) (w₀ : Bracket C) (m : M) (p : P) (places n : ℕ) → Lawful base
        → Honest o st tb (loaded base) m → height_of base.present < places
        → Searched base w₀ n (entries o st tb ch n (began base w₀ m p places)) (ran o st tb ch n (began base w₀ m p places))
