-- The lines of an input, and what is written for them.
use Rattle.std.specs.Prelude.{◌≡◌, ℕ, ◌+◌, cond, List, [], ◌∷◌, ◌++◌, Some, None, Ok, IfSome, Option, Result, ◌==◌}
use Rattle.std.specs.Borrow.{Bor}

-- the lines of an input, each less the line feed (10) that ends it; the last may have none
abbrev pub with_first : ℕ → List (List ℕ) → List (List ℕ)
with_first b [] = (b ∷ []) ∷ []
with_first b (line ∷ lines) = (b ∷ line) ∷ lines

unfoldable pub lines_of : List ℕ → List (List ℕ)
lines_of [] = []
lines_of (b ∷ bs) = cond (b == 10) ([] ∷ lines_of bs) (with_first b (lines_of bs))

-- a text that may be written for the lines from number n on, where P tells what may be written for one
unfoldable pub Written : (ℕ → List ℕ → List ℕ → Type 0) → ℕ → List (List ℕ) → List ℕ → Type 0
Written P n [] text = text ≡ []
Written P n (line ∷ lines) text = (one : List ℕ) × (rest : List ℕ) × P n line one × Written P (n + 1) lines rest × (text ≡ one ++ rest)

-- a text and a line feed, or nothing
abbrev pub one_line : {T : Type 0} → (T → List ℕ) → Option T → List ℕ
one_line bytes None = []
one_line bytes (Some s) = bytes s ++ (10 ∷ [])

-- what may be written for line n, where post tells what a call with a line may answer
abbrev pub Says : {T E : Type 0} → (T → List ℕ) → (ℕ → Bor (List ℕ) → Result (Option T) E → Type 0) → ℕ → List ℕ → List ℕ → Type 0
Says {T} bytes post n line one = (given : Bor (List ℕ)) × (answer : Option T) × post n given (Ok answer) × (given.now ≡ line) × (one ≡ one_line bytes answer)

-- the bytes of the input are known, and those that are written so far: then what is written more is a text for its lines
abbrev pub Answers : (ℕ → List ℕ → List ℕ → Type 0) → Option (List ℕ) → Option (List ℕ) → Option (List ℕ) → Type 0
Answers P input before after =
    IfSome input (λ bytes. IfSome before (λ old. (text : List ℕ) × Written P 1 (lines_of bytes) text × (after ≡ Some (old ++ text))))

-- the answers to the lines from number n on, each with a line feed after it
unfoldable pub all_answers : (ℕ → List ℕ → List ℕ) → ℕ → List (List ℕ) → List ℕ
all_answers answer n [] = []
all_answers answer n (line ∷ lines) = (answer n line ++ (10 ∷ [])) ++ all_answers answer (n + 1) lines

-- the bytes of the input are known, and those that are written so far: then what is written more is the answers to its lines
abbrev pub AnswersAll : (ℕ → List ℕ → List ℕ) → Option (List ℕ) → Option (List ℕ) → Option (List ℕ) → Type 0
AnswersAll answer input before after =
    IfSome input (λ bytes. IfSome before (λ old. after ≡ Some (old ++ all_answers answer 1 (lines_of bytes))))
