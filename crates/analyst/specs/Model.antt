-- What analysts and stacks mean. Their types name what scores, games, tables and policies mean.
use Rattle.std.specs.Prelude.{ℕ, Ok, Err, Result}
use Rattle.lattice.specs.declared.Lattice.{Ghosts as Scores}
use Rattle.lattice.specs.Scores.{standing}
use Rattle.lattice.specs.Windows.{scored}
use Rattle.games.specs.declared.Game.{Ghosts as Games}
use Rattle.tables.specs.declared.Table.{Ghosts as Tables}
use Rattle.policies.specs.declared.Policy.{Ghosts as Policies}
use Rattle.search.specs.declared.stack.SearchStack.{SearchStack}
use Rattle.search.specs.Stacks.{frames, room, job_of, all_framed, handed}
use Rattle.analyst.specs.declared.analyst.Analyst.{Analyst}
use Rattle.analyst.specs.declared.analyst.Open.{Open}
use Rattle.analyst.specs.declared.analyst.ticket.RefusedEnd.{RefusedEnd}
use Rattle.analyst.specs.declared.ended.Ended.{Ended}
use Rattle.analyst.specs.declared.refusal.Refusal.{Refusal}
use Rattle.analyst.specs.Calls.{State, Stack}

module _ {S C : Type 0} (st : S → C) where
  -- an open search and an answer by the scores that their values stand for
  abbrev pub open_of : Open S → Open C
  open_of s =
      record {
        job = s.job;
        window = scored st s.window;
        progress = record { hand = handed st s.progress.hand; entered = s.progress.entered; used = s.progress.used };
        places = s.places;
        depth = s.depth;
      }

  abbrev pub ended_of : Ended S → Ended C
  ended_of e = record { entered = e.entered; used = e.used; value = standing st e.value }

  -- the answer of an end, whatever a refused one hands back
  abbrev pub end_told : {E : Type 0} → Result (Ended S) E → Result (Ended C) E
  end_told (Ok e) = Ok (ended_of e)
  end_told (Err r) = Err r

-- a refused end hands the ticket back
abbrev pub handed_back : {A : Type 0} → ℕ → Result A Refusal → Result A RefusedEnd
handed_back t (Ok a) = Ok a
handed_back t (Err r) = Err (record { refusal = r; ticket = t })

-- a stack, by the scores that its values stand for
abbrev pub stack_of : {S : Type 0} {score : Scores S} → SearchStack S score → Stack score.Score
stack_of {score = score} k = record { places = room k; job = job_of k; frames = all_framed score.stands (frames k) }

-- an analyst, by what its game, its table and its policy mean
abbrev pub state_of : {G T Q S : Type 0} {game : Games G S} {score : Scores S} {table : Tables T} {policy : Policies Q}
    → Analyst G T Q S game score table policy → State S score.Score table.Model policy.Model
state_of {game = game} {score = score} {table = table} {policy = policy} a =
    record {
      line = game.line a.engine.game;
      table = table.model a.engine.table;
      policy = policy.model a.engine.policy;
      jobs = a.jobs;
      search = standing (open_of score.stands) a.search;
    }
