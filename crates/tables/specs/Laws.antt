-- Each table keeps to the laws.
use Rattle.std.specs.Prelude.{◌≡◌, ℕ, ◌<◌, ◌≤◌, true, false, ◌⊎◌, List, length, get_or, set, replicate, Some, None, Option, ◌==◌, ◌≢◌, slice_index_or, slice_set}
use Rattle.std.proofs.Common.{sym, ◌∙◌, ap₂, inl, inr, ⊎_elim, length-set, get_or-set_same, get_or-set_other}
use Rattle.std.proofs.lemmas.Option.{none-some}
use Rattle.std.proofs.lemmas.List.{length-replicate, get_or-replicate}
use Rattle.std.proofs.Math.ListN.{get_or-eq_default}
use Rattle.std.proofs.Math.Seq.{set_out}
use Rattle.std.proofs.lemmas.Bool.{and_parts, eqb-true, cases_Bool, cases_eq, cases_lt}
use Rattle.games.specs.declared.key.Key.{Key}
use Rattle.tables.specs.declared.claim.Claim.{Claim}
use Rattle.tables.specs.Places.{place_of, same_key, if_of, at_key, place_ops}
use Rattle.tables.specs.Tables.{TableOps, TableLaws, empty_ops, or_else, layered_ops}

pub empty_laws : TableLaws empty_ops
empty_laws = record {
  answers = λ m k c e. absurd (none-some c e);
  puts = λ m c d h. absurd h;
  clears = λ m d h. h;
}

-- keys that pass the test are the same
same_key_true : (j k : Key) → same_key j k ≡ true → j ≡ k
same_key_true j k e =
    let both = and_parts (j.first == k.first) (j.second == k.second) e in
    let of : ℕ → ℕ → Key = λ a b. record { first = a; second = b } in
    ap₂ of (eqb-true _ _ both.0) (eqb-true _ _ both.1)

-- an answer from a place stands there, and is of the key
answer_of : (k : Key) (c : Claim) (p : Option Claim) → if_of k p ≡ Some c → (p ≡ Some c) × (c.key ≡ k)
answer_of k c None e = absurd (none-some c e)
answer_of k c (Some d) e = by (cases_Bool (same_key d.key k))
  where
    by : (same_key d.key k ≡ true) ⊎ (same_key d.key k ≡ false) → (Some d ≡ Some c) × (c.key ≡ k)
    by (inl t) =
        let u : Some d ≡ Some c = rw t at e in
        let v : d ≡ c = cc in
        let w : d.key ≡ k = same_key_true d.key k t in
        (u, cc)
    by (inr t) = let u : None ≡ Some c = rw t at e in absurd (none-some c u)

-- what stands at j after a write at i is the new claim, or stood there before
after_write : (m : List (Option Claim)) (i j : ℕ) (c d : Claim) → slice_index_or (slice_set m i (Some c)) j None ≡ Some d
    → (slice_index_or m j None ≡ Some d) ⊎ (d ≡ c)
after_write m i j c d h = by (cases_eq j i) (cases_lt i (length m))
  where
    by : (j ≡ i) ⊎ (j ≢ i) → (i < length m) ⊎ (length m ≤ i) → (slice_index_or m j None ≡ Some d) ⊎ (d ≡ c)
    by (inl e) (inl lt) = let a : get_or (slice_set m i (Some c)) j None ≡ Some c = rw e (get_or-set_same m i (Some c) None lt) in inr (cc)
    by (inl e) (inr le) = let a : set m i (Some c) ≡ m = set_out m i (Some c) le in inl (rw a at h)
    by (inr ne) l = let a = get_or-set_other m i j (Some c) None ne in inl (cc)

-- nothing stands in empty places
none_at : (n j : ℕ) → ◌≡◌ {A = Option Claim} (slice_index_or (replicate n None) j None) None
none_at n j = by (cases_lt j n)
  where
    by : (j < n) ⊎ (n ≤ j) → ◌≡◌ {A = Option Claim} (slice_index_or (replicate n None) j None) None
    by (inl lt) = get_or-replicate n j None None lt
    by (inr le) =
        let l : length {A = Option Claim} (replicate n None) ≤ j = rw length-replicate le in
        get_or-eq_default (replicate n None) None l

pub place_laws : TableLaws place_ops
place_laws = record {
  answers = λ m k c e.
      let (stands, of) = answer_of k c (at_key m k) e in
      (let j : k ≡ c.key = cc in rw j at stands, of);
  puts = λ m c d h.
      let i = place_of (length m) c.key in
      let g : get_or (slice_set m i (Some c)) (place_of (length m) d.key) None ≡ Some d = rw (length-set m i (Some c)) at h in
      after_write m i (place_of (length m) d.key) c d g;
  clears = λ m d h.
      absurd (none-some d (sym (none_at (length m) (place_of (length {A = Option Claim} (replicate (length m) None)) d.key)) ∙ h));
}

-- an answer of two is one of them
or_else_cases : (x y : Option Claim) (c : Claim) → or_else x y ≡ Some c → (x ≡ Some c) ⊎ (y ≡ Some c)
or_else_cases (Some d) y c e = inl e
or_else_cases None y c e = inr e

module _ {M N : Type 0} (o : TableOps M) (p : TableOps N) (front : TableLaws o) (back : TableLaws p) where
  pub layered_laws : TableLaws (layered_ops o p)
  layered_laws = record {
    answers = λ m k c e.
        ⊎_elim
        (λ h. let (held, of) = front.answers m.own k c h in (inl held, of))
        (λ h. let (held, of) = back.answers m.below k c h in (inr held, of))
        (or_else_cases (o.answer m.own k) (p.answer m.below k) c e);
    puts = λ m c d h.
        ⊎_elim
        (λ u. ⊎_elim (λ v. inl (inl v)) (λ v. inr v) (front.puts m.own c d u))
        (λ u. ⊎_elim (λ v. inl (inr v)) (λ v. inr v) (back.puts m.below c d u))
        h;
    clears = λ m d h. ⊎_elim (front.clears m.own d) (back.clears m.below d) h;
  }
