-- The text of a line for what a search finds.
use Rattle.std.specs.Prelude.{ℕ, List, ◌++◌, Some, None, Ok, Err, codes, decimal, Option, Result}
use Rattle.std.specs.Int.{from_bool}
use Rattle.lattice.specs.Scores.{Scoring}
use Rattle.lattice.specs.FamilyScores.{family_scoring}
use Rattle.lattice.specs.TrickScores.{trick_scoring}
use Rattle.lines.specs.declared.fault.Fault.{Fault}
use Rattle.lines.specs.Deals.{Asked, tricks, plan, Deal}
use Rattle.lines.specs.Faults.{fault_number}
use Rattle.analyst.specs.declared.refusal.Refusal.{Refusal}
use Rattle.analyst.specs.Questions.{number_of}
use Rattle.solver.specs.declared.once.Solved.{Solved}
use Rattle.solver.specs.Solving.{is_finished}
use Rattle.answers.specs.Answers.{fault_text}
use Rattle.answers.specs.Hex.{hex_text}
use Rattle.findings.specs.Searched.{granted, tricks_solved, plan_solved}

-- entered,used,steps,finished
abbrev pub counts_text : ℕ → ℕ → ℕ → ℕ → List ℕ
counts_text entered used steps finished =
    decimal entered ++ (codes "," ++ (decimal used ++ (codes "," ++ (decimal steps ++ (codes "," ++ decimal finished)))))

-- line,kind,value,counts
abbrev pub whole_line : ℕ → List ℕ → List ℕ → List ℕ → List ℕ
whole_line n kind value counts = decimal n ++ (codes "," ++ (kind ++ (codes "," ++ (value ++ (codes "," ++ counts)))))

-- line,kind,R,refusal
abbrev pub refusal_text : ℕ → List ℕ → ℕ → List ℕ
refusal_text n kind refusal = decimal n ++ (codes "," ++ (kind ++ (codes ",R," ++ decimal refusal)))

-- a value by its code: U where there is none
abbrev pub value_text : (ℕ → List ℕ) → Option ℕ → List ℕ
value_text shown None = codes "U"
value_text shown (Some c) = shown c

module _ {C : Type 0} (o : Scoring C) where
  abbrev pub coded : Option C → Option ℕ
  coded None = None
  coded (Some v) = Some (o.code v)

  -- what a search found, or its refusal
  abbrev pub found_text : List ℕ → (ℕ → List ℕ) → ℕ → Solved C → List ℕ
  found_text kind shown n f =
      whole_line n kind (value_text shown (coded f.ended.value)) (counts_text f.ended.entered f.ended.used f.steps (from_bool (is_finished f)))

  abbrev pub solved_text : List ℕ → (ℕ → List ℕ) → ℕ → Result (Solved C) Refusal → List ℕ
  solved_text kind shown n (Ok f) = found_text kind shown n f
  solved_text kind shown n (Err r) = refusal_text n kind (number_of r)

-- D with tricks in decimal, and P with families in hexadecimal
abbrev pub deal_text : ℕ → Asked → Deal → List ℕ
deal_text n tricks d = solved_text trick_scoring (codes "D") decimal n (tricks_solved n d granted)
deal_text n (plan t) d = solved_text family_scoring (codes "P") hex_text n (plan_solved n t d granted)

abbrev pub answer_text : ℕ → Result Deal Fault → List ℕ
answer_text n (Ok d) = deal_text n d.asked d
answer_text n (Err f) = fault_text n (fault_number f.kind) f.place.field f.place.byte
