-- What letters and numbers are read as, and that they are read back from how they are written.
use Rattle.std.proofs.Common.{◌≡◌, ℕ, zero, suc, ◌+◌, ◌-◌, ◌*◌, ◌/◌, ◌%◌, ◌<◌, ◌≤◌, Bool, true, false, cond, not, ◌&&◌, eqb, ltb, leb, List, [], ◌∷◌, length, get_or, Some, None, Option, sym, refl, ap, ◌∙◌, subst, suc-le-suc, zero-le, arith}
use Rattle.std.specs.Option.{option_map}
use Rattle.std.proofs.lemmas.Bool.{eqb-true, eqb-false, eq-eqb, ne_eqb, ltb-true, ltb-false, lt-ltb, le-ltb, leb-true, le-leb, and_parts, and_from, not-true, cond_both, cond-true, cond-false}
use Rattle.lines.specs.Spelling.{suit_letters, rank_letters, seat_letters, place_of, one_letter, leader_of, trump_of, digit_of, two_digits, number_of, within, target_of, count_of}
use Rattle.lines.specs.Deals.{TrumpFits}
use Rattle.lines.specs.Written.{decimal, trump_text}
use Rattle.lines.proofs.Joined.{Plain}

-- a reading takes exactly the texts of the values that fit, each for its value
pub record Spells {T : Type 0} (read : List ℕ → Option T) (Fits : T → Type 0) (text : T → List ℕ) : Type 0 where
  pub reads : (p : List ℕ) (v : T) → read p ≡ Some v → Fits v × (p ≡ text v)
  pub back : (v : T) → Fits v → read (text v) ≡ Some v

-- nothing is not something
pub none_some : {T : Type 0} (v : T) → None ≡ Some v → ⊥
none_some v e = let z : ◌≡◌ {A = ℕ} 0 1 = cc in omega arith

pub some_same : {T : Type 0} (u v : T) → Some u ≡ Some v → u ≡ v
some_same u v e = cc

-- what passes a test
pub passed : {T : Type 0} (t : Bool) (o : Option T) (v : T) → cond t o None ≡ Some v → (t ≡ true) × (o ≡ Some v)
passed true o v e = (refl, e)
passed false o v e = absurd (none_some v e)

-- ---- letters

mapped_inv : {T : Type 0} (f : ℕ → T) (o : Option ℕ) (v : T) → option_map f o ≡ Some v → (n : ℕ) × (o ≡ Some n) × (f n ≡ v)
mapped_inv f None v e = absurd (none_some v e)
mapped_inv f (Some n) v e = (n, refl, cc)

-- the letter at a place
pub place_inv : (ls : List ℕ) (b n : ℕ) → place_of ls b ≡ Some n → (n < length ls) × (b ≡ get_or ls n 0)
place_inv [] b n e = absurd (none_some n e)
place_inv (l ∷ ls) b n e = go (eqb b l) refl e (λ m. place_inv ls b m)
  where
    go : (t : Bool) → eqb b l ≡ t → cond t (Some 0) (option_map suc (place_of ls b)) ≡ Some n
        → ((m : ℕ) → place_of ls b ≡ Some m → (m < length ls) × (b ≡ get_or ls m 0)) → (n < length (l ∷ ls)) × (b ≡ get_or (l ∷ ls) n 0)
    go true q e ih =
        subst (λ (k : ℕ). (k < length (l ∷ ls)) × (b ≡ get_or (l ∷ ls) k 0)) (some_same 0 n e) (suc-le-suc zero-le, eqb-true b l q)
    go false q e ih =
        let (m, f, s) = mapped_inv suc (place_of ls b) n e in
        let (d, g) = ih m f in
        subst (λ (k : ℕ). (k < length (l ∷ ls)) × (b ≡ get_or (l ∷ ls) k 0)) s (suc-le-suc d, g)

-- whether no letter is a given one
abbrev avoids : ℕ → List ℕ → Bool
avoids a [] = true
avoids a (l ∷ ls) = not (eqb l a) && avoids a ls

-- whether no letter stands twice
abbrev distinct : List ℕ → Bool
distinct [] = true
distinct (l ∷ ls) = avoids l ls && distinct ls

other : (a : ℕ) (ls : List ℕ) (n : ℕ) → avoids a ls ≡ true → n < length ls → eqb (get_or ls n 0) a ≡ false
other a [] n d h = absurd (omega arith)
other a (l ∷ ls) zero d h = not-true (eqb l a) (and_parts (not (eqb l a)) (avoids a ls) d).0
other a (l ∷ ls) (suc n) d h = other a ls n (and_parts (not (eqb l a)) (avoids a ls) d).1 (omega arith)

place_back : (ls : List ℕ) (n : ℕ) → distinct ls ≡ true → n < length ls → place_of ls (get_or ls n 0) ≡ Some n
place_back [] n d h = absurd (omega arith)
place_back (l ∷ ls) zero d h = cond-true (eqb l l) (Some 0) (option_map suc (place_of ls l)) (eq-eqb l l refl)
place_back (l ∷ ls) (suc n) d h =
    let (p, q) = and_parts (avoids l ls) (distinct ls) d in
    cond-false (eqb (get_or ls n 0) l) (Some 0) (option_map suc (place_of ls (get_or ls n 0))) (other l ls n p (omega arith))
    ∙ ap (option_map suc) (place_back ls n q (omega arith))

pub suit_back : (n : ℕ) → n < 4 → place_of suit_letters (get_or suit_letters n 0) ≡ Some n
suit_back n h = place_back suit_letters n refl h

pub rank_back : (n : ℕ) → n < 13 → place_of rank_letters (get_or rank_letters n 0) ≡ Some n
rank_back n h = place_back rank_letters n refl h

pub suit_plain : (n : ℕ) → n < 4 → eqb (get_or suit_letters n 0) 44 ≡ false
suit_plain n h = other 44 suit_letters n refl h

pub rank_plain : (n : ℕ) → n < 13 → eqb (get_or rank_letters n 0) 44 ≡ false
rank_plain n h = other 44 rank_letters n refl h

-- a field that is one letter
one_inv : {T : Type 0} (read : ℕ → Option T) (p : List ℕ) (v : T) → one_letter read p ≡ Some v → (b : ℕ) × (p ≡ b ∷ []) × (read b ≡ Some v)
one_inv read [] v e = absurd (none_some v e)
one_inv read (b ∷ []) v e = (b, refl, e)
one_inv read (b ∷ c ∷ bs) v e = absurd (none_some v e)

seat_text : (n : ℕ) → n < 4 → get_or seat_letters n 0 ∷ [] ≡ decimal n
seat_text zero h = refl
seat_text (suc zero) h = refl
seat_text (suc (suc zero)) h = refl
seat_text (suc (suc (suc zero))) h = refl
seat_text (suc (suc (suc (suc n)))) h = absurd (omega arith)

pub leaders : Spells leader_of (λ n. n < 4) decimal
leaders = record { reads = reads; back = back }
  where
    reads : (p : List ℕ) (n : ℕ) → leader_of p ≡ Some n → (n < 4) × (p ≡ decimal n)
    reads p n e =
        let (b, q, r) = one_inv (place_of seat_letters) p n e in
        let (l, g) = place_inv seat_letters b n r in
        (l, q ∙ ap (λ (x : ℕ). x ∷ []) g ∙ seat_text n l)

    back : (n : ℕ) → n < 4 → leader_of (decimal n) ≡ Some n
    back n h = ap leader_of (sym (seat_text n h)) ∙ place_back seat_letters n refl h

pub trumps : Spells trump_of TrumpFits trump_text
trumps = record { reads = reads; back = back }
  where
    letter : (b : ℕ) (v : Option ℕ) → cond (eqb b 78) (Some None) (option_map Some (place_of suit_letters b)) ≡ Some v → TrumpFits v × (b ∷ [] ≡ trump_text v)
    letter b v e = go (eqb b 78) refl e
      where
        go : (t : Bool) → eqb b 78 ≡ t → cond t (Some None) (option_map Some (place_of suit_letters b)) ≡ Some v → TrumpFits v × (b ∷ [] ≡ trump_text v)
        go true q e =
            subst (λ (o : Option ℕ). TrumpFits o × (b ∷ [] ≡ trump_text o)) (some_same None v e) (tt, ap (λ (x : ℕ). x ∷ []) (eqb-true b 78 q))
        go false q e =
            let (n, f, s) = mapped_inv Some (place_of suit_letters b) v e in
            let (l, g) = place_inv suit_letters b n f in
            subst (λ (o : Option ℕ). TrumpFits o × (b ∷ [] ≡ trump_text o)) s (l, ap (λ (x : ℕ). x ∷ []) g)

    reads : (p : List ℕ) (v : Option ℕ) → trump_of p ≡ Some v → TrumpFits v × (p ≡ trump_text v)
    reads p v e =
        let (b, q, r) = one_inv (λ b. cond (eqb b 78) (Some None) (option_map Some (place_of suit_letters b))) p v e in
        let (f, g) = letter b v r in
        (f, q ∙ g)

    back : (v : Option ℕ) → TrumpFits v → trump_of (trump_text v) ≡ Some v
    back None h = refl
    back (Some n) h =
        let b = get_or suit_letters n 0 in
        cond-false (eqb b 78) (Some None) (option_map Some (place_of suit_letters b))
        (other 78 suit_letters n refl h)
        ∙ ap (option_map Some) (suit_back n h)

pub trump_plain : (v : Option ℕ) → TrumpFits v → Plain (trump_text v)
trump_plain None h = (refl, tt)
trump_plain (Some n) h = (suit_plain n h, tt)

-- ---- numbers

digit_inv : (b d : ℕ) → digit_of b ≡ Some d → (d < 10) × (b ≡ 48 + d)
digit_inv b d e =
    let (t, s) = passed (leb 48 b && leb b 57) (Some (b - 48)) d e in
    let (x, y) = and_parts (leb 48 b) (leb b 57) t in
    let low = leb-true 48 b x in
    let high = leb-true b 57 y in
    let v = some_same (b - 48) d s in
    (omega arith, omega arith)

digit_back : (d : ℕ) → d < 10 → digit_of (48 + d) ≡ Some d
digit_back d h =
    let e : 48 + d - 48 ≡ d = omega arith in
    cond-true (leb 48 (48 + d) && leb (48 + d) 57) (Some (48 + d - 48)) None
    (and_from (leb 48 (48 + d)) (leb (48 + d) 57) (le-leb 48 (48 + d) (omega arith)) (le-leb (48 + d) 57 (omega arith)))
    ∙ ap Some e

two_inv : (a b : Option ℕ) (n : ℕ) → two_digits a b ≡ Some n → (x y : ℕ) × (a ≡ Some x) × (b ≡ Some y) × (10 * x + y ≡ n)
two_inv None b n e = absurd (none_some n e)
two_inv (Some a) None n e = absurd (none_some n e)
two_inv (Some a) (Some b) n e = (a, b, refl, refl, some_same (10 * a + b) n e)

short_text : (n : ℕ) → n < 10 → decimal n ≡ (48 + n) ∷ []
short_text n h = cond-true (ltb n 10) ((48 + n) ∷ []) ((48 + n / 10) ∷ (48 + n % 10) ∷ []) (lt-ltb n 10 h)

long_text : (n : ℕ) → 10 ≤ n → decimal n ≡ (48 + n / 10) ∷ (48 + n % 10) ∷ []
long_text n h = cond-false (ltb n 10) ((48 + n) ∷ []) ((48 + n / 10) ∷ (48 + n % 10) ∷ []) (le-ltb n 10 h)

number_inv : (p : List ℕ) (n : ℕ) → number_of p ≡ Some n → (n < 100) × (p ≡ decimal n)
number_inv [] n e = absurd (none_some n e)
number_inv (a ∷ []) n e =
    let (l, q) = digit_inv a n e in
    (omega arith, ap (λ (x : ℕ). x ∷ []) q ∙ sym (short_text n l))
number_inv (a ∷ b ∷ []) n e = go (eqb a 48) refl e
  where
    go : (t : Bool) → eqb a 48 ≡ t → cond t None (two_digits (digit_of a) (digit_of b)) ≡ Some n → (n < 100) × (a ∷ b ∷ [] ≡ decimal n)
    go true q e = absurd (none_some n e)
    go false q e =
        let f = eqb-false a 48 q in
        let (x, y, u, v, w) = two_inv (digit_of a) (digit_of b) n e in
        let (k, i) = digit_inv a x u in
        let (l, j) = digit_inv b y v in
        let pos : 1 ≤ x = omega arith in
        let c : a ≡ 48 + n / 10 = omega arith in
        let d : b ≡ 48 + n % 10 = omega arith in
        (omega arith, (λ i. c i ∷ d i ∷ []) ∙ sym (long_text n (omega arith)))
number_inv (a ∷ b ∷ c ∷ bs) n e = absurd (none_some n e)

number_back : (n : ℕ) → n < 100 → number_of (decimal n) ≡ Some n
number_back n h =
    cond_both (ltb n 10) ((48 + n) ∷ []) ((48 + n / 10) ∷ (48 + n % 10) ∷ []) (λ p. number_of p ≡ Some n)
    (λ e. digit_back n (ltb-true n 10 e))
    (λ e. let l = ltb-false n 10 e in
    let s : 10 * (n / 10) + n % 10 ≡ n = omega arith in
    cond-false (eqb (48 + n / 10) 48) None (two_digits (digit_of (48 + n / 10)) (digit_of (48 + n % 10))) (ne_eqb (48 + n / 10) 48 (λ e. omega arith))
    ∙ (λ i. two_digits (digit_back (n / 10) (omega arith) i) (digit_back (n % 10) (omega arith) i)) ∙ ap Some s)

digit_plain : (d : ℕ) → eqb (48 + d) 44 ≡ false
digit_plain d = ne_eqb (48 + d) 44 (λ e. omega arith)

pub number_plain : (n : ℕ) → Plain (decimal n)
number_plain n =
    cond_both (ltb n 10) ((48 + n) ∷ []) ((48 + n / 10) ∷ (48 + n % 10) ∷ []) Plain
    (λ e. (digit_plain n, tt)) (λ e. (digit_plain (n / 10), (digit_plain (n % 10), tt)))

within_inv : (low high : ℕ) (o : Option ℕ) (n : ℕ) → within low high o ≡ Some n → (o ≡ Some n) × (low ≤ n) × (n ≤ high)
within_inv low high None n e = absurd (none_some n e)
within_inv low high (Some m) n e =
    let (t, s) = passed (leb low m && leb m high) (Some m) n e in
    let (x, y) = and_parts (leb low m) (leb m high) t in
    let q = some_same m n s in
    let a = leb-true low m x in
    let b = leb-true m high y in
    (s, omega arith, omega arith)

-- numbers in a range
pub numbers : (low high : ℕ) → high < 100 → Spells (λ p. within low high (number_of p)) (λ n. (low ≤ n) × (n ≤ high)) decimal
numbers low high l = record { reads = reads; back = back }
  where
    reads : (p : List ℕ) (n : ℕ) → within low high (number_of p) ≡ Some n → ((low ≤ n) × (n ≤ high)) × (p ≡ decimal n)
    reads p n e = let (q, a, b) = within_inv low high (number_of p) n e in ((a, b), (number_inv p n q).1)

    back : (n : ℕ) → (low ≤ n) × (n ≤ high) → within low high (number_of (decimal n)) ≡ Some n
    back n (a, b) =
        ap (within low high) (number_back n (omega arith))
        ∙ cond-true (leb low n && leb n high) (Some n) None (and_from (leb low n) (leb n high) (le-leb low n a) (le-leb n high b))

pub targets : Spells target_of (λ n. (1 ≤ n) × (n ≤ 13)) decimal
targets = numbers 1 13 (omega arith)

pub counts : Spells count_of (λ n. (1 ≤ n) × (n ≤ 6)) decimal
counts = numbers 1 6 (omega arith)
