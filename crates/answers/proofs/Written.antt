-- A word padded to sixteen digits is written digit by digit.
use Rattle.std.proofs.Common.{◌≡◌, ℕ, zero, suc, ◌+◌, ◌-◌, ◌*◌, ◌/◌, ◌%◌, ◌^◌, ◌<◌, ◌≤◌, ◌≢◌, Bool, true, false, cond, eqb, List, [], ◌∷◌, ◌++◌, codes, length, replicate, sym, refl, ap, ◌∙◌, append_assoc, append-nil, length-append, arith}
use Rattle.std.specs.Fmt.{digits, digits_onto, padded_integral, format_spec, char_count}
use Rattle.std.proofs.Math.Nat.{div-div-eq-div-mul, zero-div, pow-succ'}
use Rattle.std.proofs.lemmas.Bool.{eqb-true, eqb-false}
use Rattle.std.proofs.lemmas.Nat.{pow-add}
use Rattle.answers.specs.Hex.{hex_digit, hex_digits, hex_text}

next_digit : (k n : ℕ) → hex_digits (suc k) n ≡ hex_digit (n / 2 ^ (4 * k) % 16) ∷ hex_digits k n
unfolding hex_digits
next_digit k n = refl

no_digit : (n : ℕ) → hex_digits 0 n ≡ []
unfolding hex_digits
no_digit n = refl

-- leading zeros
zeros : (k : ℕ) → hex_digits k 0 ≡ replicate k 48
zeros zero = no_digit 0
zeros (suc k) = next_digit k 0 ∙ ap (λ (d : ℕ). hex_digit (d % 16) ∷ hex_digits k 0) (zero-div (2 ^ (4 * k))) ∙ ap (λ (ds : List ℕ). 48 ∷ ds) (zeros k)

-- one place more
place : (k : ℕ) → 16 * 2 ^ (4 * k) ≡ 2 ^ (4 * suc k)
place k = let e : 4 * suc k ≡ 4 + 4 * k = omega arith in sym (ap (λ (m : ℕ). 2 ^ m) e ∙ pow-add 2 4 (4 * k))

-- the last digit apart
last_digit : (k n : ℕ) → hex_digits (suc k) n ≡ hex_digits k (n / 16) ++ (hex_digit (n % 16) ∷ [])
last_digit zero n =
    let e : n / 2 ^ (4 * 0) ≡ n = omega arith in
    next_digit 0 n ∙ ap (λ (m : ℕ). hex_digit (m % 16) ∷ hex_digits 0 n) e ∙ ap (λ (ds : List ℕ). hex_digit (n % 16) ∷ ds) (no_digit n)
    ∙ ap (λ (ds : List ℕ). ds ++ (hex_digit (n % 16) ∷ [])) (sym (no_digit (n / 16)))
last_digit (suc k) n =
    let e : n / 2 ^ (4 * suc k) ≡ n / 16 / 2 ^ (4 * k) = ap (λ (m : ℕ). n / m) (sym (place k)) ∙ sym (div-div-eq-div-mul n 16 (2 ^ (4 * k))) in
    next_digit (suc k) n ∙ ap (λ (m : ℕ). hex_digit (m % 16) ∷ hex_digits (suc k) n) e
    ∙ ap (λ (ds : List ℕ). hex_digit (n / 16 / 2 ^ (4 * k) % 16) ∷ ds) (last_digit k n)
    ∙ ap (λ (ds : List ℕ). ds ++ (hex_digit (n % 16) ∷ [])) (sym (next_digit k (n / 16)))

-- the digits of n, with zeros before them up to k digits, and acc after them
record Filled (k n : ℕ) (whole acc : List ℕ) : Type 0 where
  own : List ℕ
  is : whole ≡ own ++ acc
  fill : replicate (k - length own) 48 ++ own ≡ hex_digits k n

positive : (k m : ℕ) → m < 16 ^ k → m ≢ 0 → 0 < k
positive zero m l nz = absurd (nz (omega arith))
positive (suc k) m l nz = omega arith

one_more : (k n : ℕ) (acc higher : List ℕ) (t : Bool) → eqb (n / 16) 0 ≡ t → n < 16 ^ suc k
    → (0 < k → n / 16 < 16 ^ k → Filled k (n / 16) higher (hex_digit (n % 16) ∷ acc))
    → Filled (suc k) n (cond t (hex_digit (n % 16) ∷ acc) higher) acc
one_more k n acc higher true e small rest =
    let d = hex_digit (n % 16) in
    let z : n / 16 ≡ 0 = eqb-true _ _ e in
    let l : suc k - 1 ≡ k = omega arith in
    record {
      own = d ∷ [];
      is = refl;
      fill =
          ap (λ (m : ℕ). replicate m 48 ++ (d ∷ [])) l
          ∙ sym (last_digit k n ∙ ap (λ (m : ℕ). hex_digits k m ++ (d ∷ [])) z ∙ ap (λ (ds : List ℕ). ds ++ (d ∷ [])) (zeros k));
    }
one_more k n acc higher false e small rest =
    let d = hex_digit (n % 16) in
    let p : 16 ^ suc k ≡ 16 * 16 ^ k = pow-succ' 16 k in
    let less : n / 16 < 16 ^ k = omega arith in
    let f = rest (positive k (n / 16) less (eqb-false _ _ e)) less in
    let l : suc k - length (f.own ++ (d ∷ [])) ≡ k - length f.own = omega (arith, length-append f.own (d ∷ [])) in
    record {
      own = f.own ++ (d ∷ []);
      is = f.is ∙ sym (append_assoc f.own (d ∷ []) acc);
      fill =
          ap (λ (m : ℕ). replicate m 48 ++ (f.own ++ (d ∷ []))) l
          ∙ sym (append_assoc (replicate (k - length f.own) 48) f.own (d ∷ []))
          ∙ ap (λ (ds : List ℕ). ds ++ (d ∷ [])) f.fill ∙ sym (last_digit k n);
    }

filled : (k j n : ℕ) (acc : List ℕ) → 0 < k → k ≤ j → n < 16 ^ k → Filled k n (digits_onto j 16 false n acc) acc
filled zero j n acc some fits small = absurd (omega arith)
filled (suc k) zero n acc some fits small = absurd (omega arith)
filled (suc k) (suc j) n acc some fits small =
    one_more k n acc (digits_onto j 16 false (n / 16) (hex_digit (n % 16) ∷ acc)) (eqb (n / 16) 0) refl small
    (λ more less. filled k j (n / 16) (hex_digit (n % 16) ∷ acc) more (omega arith) less)

-- what `0` and a width of 16 write of some digits
wide : (ds : List ℕ) → padded_integral (format_spec 32 0 4 16 (2 ^ 64 - 1)) false [] ds ≡ replicate (16 - length ds) 48 ++ ds
unfolding padded_integral char_count
wide ds = ap (λ (m : ℕ). replicate m 48 ++ (ds ++ [])) {x = 16 - length ds - 0 - 0} {y = 16 - length ds} (omega arith) ∙ ap (λ (x : List ℕ). replicate (16 - length ds) 48 ++ x) (append-nil ds)

spelled : (n : ℕ) → digits 16 false n ≡ digits_onto 64 16 false n []
unfolding digits
spelled n = refl

whole : (n : ℕ) (ds : List ℕ) → Filled 16 n ds [] → replicate (16 - length ds) 48 ++ ds ≡ hex_digits 16 n
whole n ds f = ap (λ (x : List ℕ). replicate (16 - length x) 48 ++ x) (f.is ∙ append-nil f.own) ∙ f.fill

-- what `0x{:016x}` writes of a word
pub sixteen_digits : (n : ℕ) → n < 2 ^ 64 → codes "0x" ++ padded_integral (format_spec 32 0 4 16 (2 ^ 64 - 1)) false [] (digits 16 false n) ≡ hex_text n
unfolding hex_text
sixteen_digits n small =
    ap (λ (ds : List ℕ). codes "0x" ++ ds) (wide (digits 16 false n) ∙ ap (λ (ds : List ℕ). replicate (16 - length ds) 48 ++ ds) (spelled n)
    ∙ whole n _ (filled 16 64 n [] (omega arith) (omega arith) (omega arith)))
