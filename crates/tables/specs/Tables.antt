-- What a table does, as functions of its model, and the laws that every table keeps to.
use Rattle.std.specs.Prelude.{◌≡◌, ◌⊎◌, Some, None, Option}
use Rattle.games.specs.declared.key.Key.{Key}
use Rattle.tables.specs.declared.claim.Claim.{Claim}

-- the claims that a table with the model M holds, its answer for a key, and its model after a put and after a clear
pub record TableOps (M : Type 0) : Type 1 where
  pub holds : M → Claim → Type 0
  pub answer : M → Key → Option Claim
  pub put : M → Claim → M
  pub clear : M → M

pub record TableLaws {M : Type 0} (o : TableOps M) : Type 0 where
  -- an answer is a claim held, for that key
  pub answers : (m : M) (k : Key) (c : Claim) → o.answer m k ≡ Some c → o.holds m c × (c.key ≡ k)
  -- after a put are held only claims held before and the new one
  pub puts : (m : M) (c d : Claim) → o.holds (o.put m c) d → o.holds m d ⊎ (d ≡ c)
  -- after a clear none is held
  pub clears : (m : M) (d : Claim) → o.holds (o.clear m) d → ⊥

-- what an answer r for the key k may be once the claim `new` is put: a claim for that key, held before or new
pub record Remembered {M : Type 0} (o : TableOps M) (m : M) (new : Claim) (k : Key) (r : Option Claim) : Type 0 where
  pub asked : (c : Claim) → r ≡ Some c → c.key ≡ k
  pub known : (c : Claim) → r ≡ Some c → o.holds m c ⊎ (c ≡ new)

-- the table that holds nothing
abbrev pub empty_ops : TableOps (Unit {0})
empty_ops = record { holds = λ m c. ⊥; answer = λ m k. None; put = λ m c. m; clear = λ m. m }

-- the models of two tables, one in front of the other
pub record Layered (M N : Type 0) : Type 0 where
  pub own : M
  pub below : N

-- the first answer, or where there is none the second
abbrev pub or_else : Option Claim → Option Claim → Option Claim
or_else (Some c) y = Some c
or_else None y = y

-- a table in front of another: a put and a clear go to both, a question to the one in front first
module _ {M N : Type 0} (o : TableOps M) (p : TableOps N) where
  abbrev pub layered_ops : TableOps (Layered M N)
  layered_ops = record {
    holds = λ m c. o.holds m.own c ⊎ p.holds m.below c;
    answer = λ m k. or_else (o.answer m.own k) (p.answer m.below k);
    put = λ m c. record { own = o.put m.own c; below = p.put m.below c };
    clear = λ m. record { own = o.clear m.own; below = p.clear m.below };
  }
