-- What any table answers after a put and after a clear.
use Rattle.std.proofs.Common.{◌≡◌, Some, None, Option, sym, refl, ap, ◌∙◌, subst}
use Rattle.games.specs.declared.key.Key.{Key}
use Rattle.tables.specs.declared.claim.Claim.{Claim}
use Rattle.tables.specs.Tables.{TableOps, TableLaws, Remembered}

none_if : (r : Option Claim) → ((c : Claim) → r ≡ Some c → ⊥) → r ≡ None
none_if None f = refl
none_if (Some c) f = absurd (f c refl)

-- n is the model that the operation leaves of m
module _ {M : Type 0} (o : TableOps M) (l : TableLaws o) where
  pub remembered : (m n : M) (new : Claim) → n ≡ o.put m new → (k : Key) → Remembered o m new k (o.answer n k)
  remembered m n new q k =
      subst (λ (x : M). Remembered o m new k (o.answer x k)) (sym q)
      (record {
        asked = λ c e. (l.answers (o.put m new) k c e).1;
        known = λ c e. l.puts m new c (l.answers (o.put m new) k c e).0;
      })

  pub forgotten : (m n : M) → n ≡ o.clear m → (k : Key) → o.answer n k ≡ None
  forgotten m n q k =
      ap (λ (x : M). o.answer x k) q
      ∙ none_if (o.answer (o.clear m) k) (λ c e. l.clears m c (l.answers (o.clear m) k c e).0)
