-- A row of places, each with a claim or none. A key has one place there; a claim that stands at another counts for nothing.
use Rattle.std.specs.Prelude.{◌≡◌, ℕ, ◌*◌, ◌/◌, ◌%◌, ◌^◌, Bool, cond, ◌&&◌, List, length, replicate, Some, None, Option, ◌==◌, bit_or, bit_xor, slice_index_or, slice_set}
use Rattle.games.specs.declared.key.Key.{Key}
use Rattle.tables.specs.declared.claim.Claim.{Claim}
use Rattle.tables.specs.Tables.{TableOps}

-- a word of 64 bits turned left by 17
abbrev pub turned : ℕ → ℕ
turned x = bit_or (x * 2 ^ 17 % 2 ^ 64) (x / 2 ^ 47)

-- the place of a key among n
abbrev pub place_of : ℕ → Key → ℕ
place_of n k = bit_xor k.first (turned k.second) % n

-- whether two keys are the same
abbrev pub same_key : Key → Key → Bool
same_key j k = j.first == k.first && j.second == k.second

-- what stands at a place, if it is of this key
abbrev pub if_of : Key → Option Claim → Option Claim
if_of k (Some c) = cond (same_key c.key k) (Some c) None
if_of k None = None

-- what stands at the place of a key
abbrev pub at_key : List (Option Claim) → Key → Option Claim
at_key m k = slice_index_or m (place_of (length m) k) None

-- a row holds the claims that stand at the places of their keys; a put overwrites one place, a clear empties all
abbrev pub place_ops : TableOps (List (Option Claim))
place_ops = record {
  holds = λ m c. at_key m c.key ≡ Some c;
  answer = λ m k. if_of k (at_key m k);
  put = λ m c. slice_set m (place_of (length m) c.key) (Some c);
  clear = λ m. replicate (length m) None;
}
