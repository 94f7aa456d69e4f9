-- An open search, by the scores that its values stand for, has as many open positions and plays; and what an end comes to
-- whose ticket and stack are its own.
use Rattle.std.proofs.Common.{◌≡◌, ℕ, true, List, length, Some, Ok, ap, ◌∙◌}
use Rattle.lattice.specs.Scores.{Scoring}
use Rattle.search.specs.declared.frame.Frame.{Frame}
use Rattle.search.specs.declared.frame.Hand.{Hand}
use Rattle.search.specs.Promises.{plays}
use Rattle.search.specs.Stacks.{all_framed, handed}
use Rattle.search.proofs.Back.{length_framed, plays_framed}
use Rattle.analyst.specs.declared.analyst.Open.{Open}
use Rattle.analyst.specs.Calls.{State, Stack, ends, ends_of, closed, matches}
use Rattle.analyst.proofs.Results.{said_yes}

module _ {S C : Type 0} (st : S → C) where
  pub as_many : (fs : List (Frame S)) → length (all_framed st fs) ≡ length fs
  as_many fs = length_framed st fs

  pub plays_told : (h : Hand S) (fs : List (Frame S)) → plays (handed st h) (length (all_framed st fs)) ≡ plays h (length fs)
  plays_told h fs = plays_framed st h fs

module _ {S C M P : Type 0} (o : Scoring C) where
  pub ends_so : (a : State S C M P) (s : Open C) (j : ℕ) (k : Stack C) → a.search ≡ Some s → matches s j k ≡ true
      → ends o a j k ≡ Ok (closed o a s k)
  ends_so a s j k e m = ap (ends_of o a j k) e ∙ said_yes (matches s j k) _ (closed o a s k) m

  -- states with the same parts are the same
  pub same_state : (a b : State S C M P) → a.line ≡ b.line → a.table ≡ b.table → a.policy ≡ b.policy → a.jobs ≡ b.jobs → a.search ≡ b.search → a ≡ b
  same_state a b l t p j s = λ i. record { line = l i; table = t i; policy = p i; jobs = j i; search = s i }
