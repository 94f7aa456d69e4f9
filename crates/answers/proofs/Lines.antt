-- Going through the lines of an input.
use Rattle.std.proofs.Common.{◌≡◌, ℕ, suc, ◌+◌, ◌-◌, ◌<◌, Bool, true, false, cond, eqb, List, [], ◌∷◌, ◌++◌, length, take, slice_index, Some, None, Ok, Err, Option, Result, IfSome, OnOk, sym, refl, ap, ◌∙◌, subst, append_assoc, append-nil, arith}
use Rattle.std.specs.Io.BufRead.{take_through, drop_through, DropsThrough}
use Rattle.std.specs.Io.KnownBytes.{Appends, IsAtEnd}
use Rattle.answers.specs.Answers.{line_text}
use Rattle.answers.specs.Lines.{with_first, lines_of, Written, Answers, AnswersAll, all_answers}

by_parts : {A B : Type 0} (t : Bool) (x y : A) (f : A → B) → cond t (f x) (f y) ≡ f (cond t x y)
by_parts true x y f = refl
by_parts false x y f = refl

-- a line with one byte more at its front
longer : (b d : ℕ) (ds : List ℕ) → line_text (b ∷ (d ∷ ds)) ≡ b ∷ line_text (d ∷ ds)
longer b d ds =
    let e : length (b ∷ (d ∷ ds)) - 1 ≡ suc (length ds) = omega arith in
    let f : length (d ∷ ds) - 1 ≡ length ds = omega arith in
    ap (λ (k : ℕ). cond (eqb (slice_index (b ∷ (d ∷ ds)) k) 10) (take k (b ∷ (d ∷ ds))) (b ∷ (d ∷ ds))) e
    ∙ by_parts (eqb (slice_index (d ∷ ds) (length ds)) 10) (take (length ds) (d ∷ ds)) (d ∷ ds) (λ xs. b ∷ xs)
    ∙ ap (λ (k : ℕ). b ∷ cond (eqb (slice_index (d ∷ ds) k) 10) (take k (d ∷ ds)) (d ∷ ds)) (sym f)

no_lines : lines_of [] ≡ []
unfolding lines_of
no_lines = refl

next_byte : (b : ℕ) (bs : List ℕ) → lines_of (b ∷ bs) ≡ cond (eqb b 10) ([] ∷ lines_of bs) (with_first b (lines_of bs))
unfolding lines_of
next_byte b bs = refl

starts : (c : ℕ) (cs : List ℕ) → c ∷ cond (eqb c 10) [] (take_through 10 cs) ≡ take_through 10 (c ∷ cs)
starts c cs = sym (by_parts (eqb c 10) [] (take_through 10 cs) (λ xs. c ∷ xs))

alone : (b : ℕ) (t : Bool) → eqb b 10 ≡ t
    → cond t ([] ∷ lines_of []) (with_first b (lines_of [])) ≡ line_text (cond t (b ∷ []) (b ∷ [])) ∷ lines_of (cond t [] [])
alone b true e = ap (λ (u : Bool). cond u [] (b ∷ []) ∷ lines_of []) (sym e)
alone b false e =
    ap (with_first b) no_lines ∙ ap (λ (u : Bool). cond u [] (b ∷ []) ∷ []) (sym e) ∙ ap (λ (ls : List (List ℕ)). line_text (b ∷ []) ∷ ls) (sym no_lines)

joined : (b c : ℕ) (cs : List ℕ) (t : Bool) → eqb b 10 ≡ t → lines_of (c ∷ cs) ≡ line_text (take_through 10 (c ∷ cs)) ∷ lines_of (drop_through 10 (c ∷ cs))
    → cond t ([] ∷ lines_of (c ∷ cs)) (with_first b (lines_of (c ∷ cs)))
    ≡ line_text (cond t (b ∷ []) (b ∷ take_through 10 (c ∷ cs))) ∷ lines_of (cond t (c ∷ cs) (drop_through 10 (c ∷ cs)))
joined b c cs true e more = ap (λ (u : Bool). cond u [] (b ∷ []) ∷ lines_of (c ∷ cs)) (sym e)
joined b c cs false e more =
    let rest = lines_of (drop_through 10 (c ∷ cs)) in
    let s = starts c cs in
    ap (with_first b) more
    ∙ ap (λ (xs : List ℕ). xs ∷ rest)
    (ap (λ (xs : List ℕ). b ∷ line_text xs) (sym s) ∙ sym (longer b c (cond (eqb c 10) [] (take_through 10 cs))) ∙ ap (λ (xs : List ℕ). line_text (b ∷ xs)) s)

-- the first line, and the others
first_line : (b : ℕ) (bs : List ℕ) → lines_of (b ∷ bs) ≡ line_text (take_through 10 (b ∷ bs)) ∷ lines_of (drop_through 10 (b ∷ bs))
first_line b [] = next_byte b [] ∙ alone b (eqb b 10) refl
first_line b (c ∷ cs) = next_byte b (c ∷ cs) ∙ joined b c cs (eqb b 10) refl (first_line c cs)

module _ (P : ℕ → List ℕ → List ℕ → Type 0) where
  none_written : (n : ℕ) → Written P n [] []
  unfolding Written
  none_written n = refl

  next_written : (n : ℕ) (line : List ℕ) (lines : List (List ℕ)) (one rest : List ℕ) → P n line one → Written P (n + 1) lines rest → Written P n (line ∷ lines) (one ++ rest)
  unfolding Written
  next_written n line lines one rest p w = (one, rest, p, w, refl)

  -- what is left of the input, and what is written; whatever may be written for the lines left makes a whole
  pub record Goes (bytes old : List ℕ) (n : ℕ) (input output : Option (List ℕ)) : Type 0 where
    pub left : List ℕ
    pub done : List ℕ
    pub to_read : input ≡ Some left
    pub written : output ≡ Some done
    pub on : (rest : List ℕ) → Written P n (lines_of left) rest → (text : List ℕ) × Written P 1 (lines_of bytes) text × (done ++ rest ≡ old ++ text)

  abbrev pub Going : Option (List ℕ) → Option (List ℕ) → ℕ → Option (List ℕ) → Option (List ℕ) → Type 0
  Going from to n input output = IfSome from (λ bytes. IfSome to (λ old. Goes bytes old n input output))

  pub begun : (input output : Option (List ℕ)) → Going input output 1 input output
  begun None output = tt
  begun (Some bytes) None = tt
  begun (Some bytes) (Some old) = record { left = bytes; done = old; to_read = refl; written = refl; on = λ rest w. (rest, w, refl) }

  grown : (done : List ℕ) (after : Option (List ℕ)) (one : List ℕ) → Appends (Some done) after one → after ≡ Some (done ++ one)
  grown done None one e = absurd e
  grown done (Some ys) one e = ap Some e

  -- one line more
  pub one_more : (from to input output after_input after_output : Option (List ℕ)) (n : ℕ) (line one : List ℕ) → Going from to n input output
      → IfSome input (λ ys. line ≡ take_through 10 ys) → DropsThrough input after_input 10 → 0 < length line
      → Appends output after_output one → P n (line_text line) one → Going from to (n + 1) after_input after_output
  one_more None to input output after_input after_output n line one g l d some a p = tt
  one_more (Some bytes) None input output after_input after_output n line one g l d some a p = tt
  one_more (Some bytes) (Some old) input output after_input after_output n line one g l d some a p =
      let is : line ≡ take_through 10 g.left = subst (λ (o : Option (List ℕ)). IfSome o (λ ys. line ≡ take_through 10 ys)) g.to_read l in
      record {
        left = drop_through 10 g.left;
        done = g.done ++ one;
        to_read = subst (λ (o : Option (List ℕ)). DropsThrough o after_input 10) g.to_read d;
        written = grown g.done after_output one (subst (λ (o : Option (List ℕ)). Appends o after_output one) g.written a);
        on = λ rest w.
            let whole = g.on (one ++ rest) (read g.left is rest w) in
            (whole.0, whole.1, append_assoc g.done one rest ∙ whole.2);
      }
    where
      read : (left : List ℕ) → line ≡ take_through 10 left → (rest : List ℕ) → Written P (n + 1) (lines_of (drop_through 10 left)) rest → Written P n (lines_of left) (one ++ rest)
      read [] is rest w = absurd (omega (arith, ap length is))
      read (b ∷ bs) is rest w =
          subst (λ (ls : List (List ℕ)). Written P n ls (one ++ rest)) (sym (first_line b bs))
          (next_written n (line_text (take_through 10 (b ∷ bs))) (lines_of (drop_through 10 (b ∷ bs))) one rest
          (subst (λ (x : List ℕ). P n (line_text x) one) is p) w)

  -- at the end of the input
  pub ended : (from to input output : Option (List ℕ)) (n : ℕ) → Going from to n input output → IsAtEnd input → Answers P from to output
  ended None to input output n g e = tt
  ended (Some bytes) None input output n g e = tt
  ended (Some bytes) (Some old) input output n g e =
      let none : g.left ≡ [] = subst IsAtEnd g.to_read e in
      let whole = g.on [] (subst (λ (x : List ℕ). Written P n (lines_of x) []) (sym none) (subst (λ (ls : List (List ℕ)). Written P n ls []) (sym no_lines) (none_written n))) in
      (whole.0, whole.1, g.written ∙ ap Some (sym (append-nil g.done) ∙ whole.2))

-- where each call can only answer one text
pub exactly : (P : ℕ → List ℕ → List ℕ → Type 0) (f : ℕ → List ℕ → List ℕ) → ((n : ℕ) (line one : List ℕ) → P n line one → one ≡ f n line ++ (10 ∷ []))
    → (n : ℕ) (lines : List (List ℕ)) (text : List ℕ) → Written P n lines text → text ≡ all_answers f n lines
unfolding Written all_answers
exactly P f only n [] text w = w
exactly P f only n (line ∷ lines) text w =
    w.4 ∙ (λ i. only n line w.0 w.2 i ++ exactly P f only (n + 1) lines w.1 w.3 i)

pub all_exactly : (P : ℕ → List ℕ → List ℕ → Type 0) (f : ℕ → List ℕ → List ℕ) → ((n : ℕ) (line one : List ℕ) → P n line one → one ≡ f n line ++ (10 ∷ []))
    → (input before after : Option (List ℕ)) → Answers P input before after → AnswersAll f input before after
all_exactly P f only None before after a = tt
all_exactly P f only (Some bytes) None after a = tt
all_exactly P f only (Some bytes) (Some old) after a = a.2 ∙ ap (λ (text : List ℕ). Some (old ++ text)) (exactly P f only 1 (lines_of bytes) a.0 a.1)

pub on_ok_map : {A E P Q : Type 0} (r : Result A E) → (P → Q) → OnOk r P → OnOk r Q
on_ok_map (Ok x) f p = f p
on_ok_map (Err e) f p = p
