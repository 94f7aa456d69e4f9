-- Fields put together by commas come apart again as they were, and the fields of a line put together are the line.
use Rattle.std.proofs.Common.{◌≡◌, ℕ, false, eqb, List, [], ◌∷◌, ◌++◌, sym, refl, ap, ◌∙◌}
use Rattle.std.specs.List.{AllByRecursion}
use Rattle.std.proofs.lemmas.Bool.{eqb-true, cond_both, cond-false}
use Rattle.lines.specs.Fields.{onto, split}
use Rattle.lines.specs.Written.{joined}

-- ---- a line's fields put together

joined_onto : (b : ℕ) (ps : List (List ℕ)) → joined (onto b ps) ≡ b ∷ joined ps
joined_onto b [] = refl
joined_onto b (p ∷ []) = refl
joined_onto b (p ∷ q ∷ ps) = refl

abbrev SomeField : List (List ℕ) → Type 0
SomeField [] = ⊥
SomeField (p ∷ ps) = Unit {0}

onto_some : (b : ℕ) (ps : List (List ℕ)) → SomeField (onto b ps)
onto_some b [] = tt
onto_some b (p ∷ ps) = tt

split_some : (line : List ℕ) → SomeField (split line)
split_some [] = tt
split_some (b ∷ bs) =
    cond_both (eqb b 44) ([] ∷ split bs) (onto b (split bs)) SomeField (λ e. tt) (λ e. onto_some b (split bs))

joined_empty : (ps : List (List ℕ)) → SomeField ps → joined ([] ∷ ps) ≡ 44 ∷ joined ps
joined_empty [] h = absurd h
joined_empty (p ∷ ps) h = refl

pub joined_split : (line : List ℕ) → joined (split line) ≡ line
joined_split [] = refl
joined_split (b ∷ bs) =
    cond_both (eqb b 44) ([] ∷ split bs) (onto b (split bs)) (λ ps. joined ps ≡ b ∷ bs)
    (λ e. joined_empty (split bs) (split_some bs) ∙ (λ i. sym (eqb-true b 44 e) i ∷ joined_split bs i))
    (λ e. joined_onto b (split bs) ∙ ap (λ (xs : List ℕ). b ∷ xs) (joined_split bs))

-- ---- fields with no comma

abbrev pub Plain : List ℕ → Type 0
Plain = AllByRecursion (λ b. eqb b 44 ≡ false)

split_plain : (p : List ℕ) → Plain p → split p ≡ p ∷ []
split_plain [] h = refl
split_plain (b ∷ p) (h, t) =
    cond-false (eqb b 44) ([] ∷ split p) (onto b (split p)) h ∙ ap (onto b) (split_plain p t)

split_more : (p rest : List ℕ) → Plain p → split (p ++ 44 ∷ rest) ≡ p ∷ split rest
split_more [] rest h = refl
split_more (b ∷ p) rest (h, t) =
    cond-false (eqb b 44) ([] ∷ split (p ++ 44 ∷ rest)) (onto b (split (p ++ 44 ∷ rest))) h ∙ ap (onto b) (split_more p rest t)

pub split_joined : (p : List ℕ) (ps : List (List ℕ)) → AllByRecursion Plain (p ∷ ps) → split (joined (p ∷ ps)) ≡ p ∷ ps
split_joined p [] (h, t) = split_plain p h
split_joined p (q ∷ ps) (h, t) = split_more p (joined (q ∷ ps)) h ∙ ap (λ (qs : List (List ℕ)). p ∷ qs) (split_joined q ps t)
