-- The text of an answer line.
use Rattle.std.specs.Prelude.{ℕ, ◌-◌, cond, List, ◌++◌, length, take, Ok, Err, codes, decimal, Result, ◌==◌, nat_lt, slice_index}
use Rattle.lattice.specs.declared.family.Family.{Family}
use Rattle.lattice.specs.declared.tricks.Tricks.{Tricks}
use Rattle.lattice.specs.TrickScores.{trick_scoring, tricks_of}
use Rattle.games.specs.Trees.{Tree, plain, size as tree_size}
use Rattle.games.specs.Evaluations.{capped}
use Rattle.lines.specs.declared.fault.Fault.{Fault}
use Rattle.lines.specs.Deals.{Asked, tricks, plan, Deal}
use Rattle.lines.specs.Faults.{fault_number}
use Rattle.lines.specs.Spelling.{size}
use Rattle.cardplay.specs.Cards.{position}
use Rattle.cardplay.specs.Deals.{first_play}
use Rattle.cardplay.specs.Dealing.{dealt}
use Rattle.cardplay.specs.PlanScores.{plan_family}
use Rattle.deals.specs.Scores.{tricks_won, sets_made}
use Rattle.answers.specs.Hex.{hex_text}

-- a line less its last byte, if that is a line feed (10)
abbrev pub line_text : List ℕ → List ℕ
line_text line = cond (slice_index line (length line - 1) == 10) (take (length line - 1) line) line

-- line,E,fault,field,byte
abbrev pub fault_text : ℕ → ℕ → ℕ → ℕ → List ℕ
fault_text n fault field byte =
    decimal n ++ (codes ",E," ++ (decimal fault ++ (codes "," ++ (decimal field ++ (codes "," ++ decimal byte)))))

-- line,kind,value,positions
abbrev pub value_text : ℕ → List ℕ → List ℕ → ℕ → List ℕ
value_text n kind value positions =
    decimal n ++ (codes "," ++ (kind ++ (codes "," ++ (value ++ (codes "," ++ decimal positions)))))

-- line,kind,U,0
abbrev pub open_text : ℕ → List ℕ → List ℕ
open_text n kind = decimal n ++ (codes "," ++ (kind ++ codes ",U,0"))

-- hands of at most four cards are solved: the plain value and the size of the tree; larger ones are left open
abbrev pub game_text : {C : Type 0} → List ℕ → (C → List ℕ) → ℕ → ℕ → C → ℕ → List ℕ
game_text kind shown n cards value positions =
    cond (nat_lt 4 cards) (open_text n kind)
    (value_text n kind (shown value) (capped positions))

-- the tree of a deal's first position, for the trick game and for the plan game with a target
abbrev pub tricks_tree : Deal → Tree Tricks
tricks_tree d = position (dealt d) tricks_won (first_play (dealt d))

abbrev pub plan_tree : ℕ → Deal → Tree Family
plan_tree t d = position (dealt d) (sets_made t) (first_play (dealt d))

-- D with the number of tricks in best play, and P with the family that one plan beats
abbrev pub tricks_answer : ℕ → Deal → List ℕ
tricks_answer n d =
    game_text (codes "D") (λ v. decimal v.number) n (size d.hand0) (plain trick_scoring tricks_of (tricks_tree d)) (tree_size (tricks_tree d))

abbrev pub plan_answer : ℕ → ℕ → Deal → List ℕ
plan_answer n t d =
    game_text (codes "P") (λ v. hex_text v.number) n (size d.hand0) (plan_family (dealt d) t (first_play (dealt d))) (tree_size (plan_tree t d))

abbrev pub deal_text : ℕ → Asked → Deal → List ℕ
deal_text n tricks d = tricks_answer n d
deal_text n (plan t) d = plan_answer n t d

abbrev pub answer_text : ℕ → Result Deal Fault → List ℕ
answer_text n (Ok d) = deal_text n d.asked d
answer_text n (Err f) = fault_text n (fault_number f.kind) f.place.field f.place.byte
