-- The stack of a search, and the state of a search as the program holds it.
use Rattle.std.specs.Prelude.{ℕ, ◌-◌, ◌^◌, min, List, [], ◌∷◌, reverse, length, take, Some, None, Option}
use Rattle.lattice.specs.declared.Lattice.{Ghosts}
use Rattle.lattice.specs.Windows.{scored}
use Rattle.games.specs.Trees.{Line}
use Rattle.search.specs.declared.engine.Engine.{Engine}
use Rattle.search.specs.declared.frame.Frame.{Frame}
use Rattle.search.specs.declared.frame.Hand.{Hand}
use Rattle.search.specs.declared.frame.Hand.TheVariants.{Enter, Holding, Nothing}
use Rattle.search.specs.declared.frame.Progress.{Progress}
use Rattle.search.specs.declared.stack.SearchStack.{SearchStack}
use Rattle.search.specs.Steps.{Search}

module _ {X : Type 0} where
  -- the first of a list
  abbrev pub head : List X → Option X
  head [] = None
  head (x ∷ xs) = Some x

  -- all but the first
  abbrev pub tail : List X → List X
  tail [] = []
  tail (x ∷ xs) = xs

  -- the list with another first; an empty one has none
  abbrev pub with_head : List X → X → List X
  with_head [] y = []
  with_head (x ∷ xs) y = y ∷ xs

  -- the first n of a list, the last of them first
  abbrev pub newest_first : ℕ → List X → List X
  newest_first n xs = reverse (take n xs)

-- a stack's type names what the score type S means
module _ {S : Type 0} {meaning : Ghosts S} where
  -- the open frames, the newest first
  abbrev pub frames : SearchStack S meaning → List (Frame S)
  frames k = newest_first k.count k.places.now

  -- the most frames that the stack holds
  abbrev pub room : SearchStack S meaning → ℕ
  room k = min (length k.places.now) (2 ^ 32 - 1)

  -- the job that the stack is marked with, or 0
  abbrev pub job_of : SearchStack S meaning → ℕ
  job_of k = k.job

module _ {S C : Type 0} (st : S → C) where
  -- a frame, frames and what is in hand by the scores that their values stand for
  abbrev pub framed : Frame S → Frame C
  framed f = record { window = scored st f.window; found = scored st f.found; taken = f.taken; last = f.last }

  abbrev pub all_framed : List (Frame S) → List (Frame C)
  all_framed [] = []
  all_framed (f ∷ fs) = framed f ∷ all_framed fs

  abbrev pub handed : Hand S → Hand C
  handed (Enter w) = Enter (scored st w)
  handed (Holding b) = Holding (scored st b)
  handed Nothing = Nothing

  -- the state of a search by its engine, stack and progress, told what game, table and policy mean
  abbrev pub searching : {meaning : Ghosts S} {G T Q M P : Type 0} → (G → Line S) → (T → M) → (Q → P) → Engine G T Q S → SearchStack S meaning → Progress S → Search S C M P
  searching line table policy e k g =
      record {
        line = line e.game;
        table = table e.table;
        policy = policy e.policy;
        frames = all_framed (frames k);
        places = room k;
        hand = handed g.hand;
        entered = g.entered;
        used = g.used;
      }
