use Rattle.std.proofs.Common.{ℕ, List, [], ◌∷◌, ◌++◌, ap, ◌∙◌, rules}
use Rattle.answers.proofs.Lines.{all_exactly, on_ok_map}
use Rattle.answers.proofs.input.answer_all.Goals as goal

pub returns : goal.returns
returns g c =
    on_ok_map c.answer_lines.result (all_exactly _ g.A.Answering.text
    (λ n line one s. s.4 ∙ search rules ∙ ap (λ (l : List ℕ). g.A.Answering.text n l ++ (10 ∷ [])) s.3) _ _ _) c.answer_lines.ensures
