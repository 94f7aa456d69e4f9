use Rattle.std.proofs.Common.{ap, ◌+◌, ℕ, length-take-le}
use Rattle.lines.proofs.Cut.{next_piece, none_past, spot_end, spot_on}
use Rattle.lines.proofs.fields.cursor.FieldsIterator.next.Goals as goal

pub returns-then-self-clause-steps : goal.returns-then-self-clause-steps
returns-then-self-clause-steps c =
    let s = c.args.self.now in
    let e = none_past s.line.now s.at c.if-self.true in
    record { text = e; place = tt; goes = spot_end s.line.now s.at s.number e }

pub returns-clause-steps : goal.returns-clause-steps
returns-clause-steps c =
    let e = c.before_comma-length.ensures in
    let s = c.args.self.now in
    let n = c.before_comma-length.result in
    let p = next_piece s.line.now s.at n c.if-self.false e.high e.before e.found in
    record {
      text = p;
      place = (c.place.ensures.field, c.place.ensures.byte);
      goes = spot_on s.line.now _ s.at _ s.number p (ap (λ (m : ℕ). s.at + (m + 1)) (length-take-le n _ e.high));
    }
