use Rattle.std.proofs.Common.{◌≡◌, ℕ, ◌<◌, List, ◌++◌, length, IfSome, string_bytes, refl, ap, ◌∙◌, subst, arith}
use Rattle.std.specs.Io.BufRead.{take_through}
use Rattle.answers.specs.Answers.{line_text}
use Rattle.answers.specs.Lines.{one_line}
use Rattle.answers.proofs.Lines.{one_more, ended}
use Rattle.answers.proofs.input.answer_lines.Goals as goal

pub returns-then-branch-eq0 : goal.returns-then-branch-eq0
returns-then-branch-eq0 g c = ended _ _ _ _ _ _ c.loop-number.invariant (c.in_ok-read_until.ensures.end c.if-branch-eq0.true)

pub loop-number-preserved : goal.loop-number-preserved
loop-number-preserved g c =
    let line = c.read_until.new.buf.items in
    let known = subst (λ (old : List ℕ). IfSome (g.R.Read.remaining c.loop-number.input) (λ xs. line ≡ old ++ take_through 10 xs))
    c.clear.ensures.items c.in_ok-read_until.ensures.bytes in
    let some : 0 < length line = omega (arith, c.in_ok-read_until.ensures.ok, c.if-branch-eq0.false) in
    one_more _ _ _ _ _ _ _ _ line (one_line string_bytes c.in_ok-answer.field-0) c.loop-number.invariant known c.in_ok-read_until.ensures.rest some
    c.in_ok-write_line.ensures
    (c.without_line_feed.result, c.in_ok-answer.field-0, c.in_ok-answer.ensures, c.without_line_feed.ensures ∙ ap line_text c.as_slice.ensures.value, refl)
