use Rattle.std.proofs.Common.{◌<◌, sym, arith, rules}
use Rattle.std.proofs.lemmas.Bool.{eqb-true, eqb-false}
use Rattle.policies.specs.Policies.{free}
use Rattle.policies.proofs.Extremes.{lowest_empty, lowest_some}
use Rattle.policies.proofs.Uses.{free_parts}
use Rattle.policies.proofs.untaken.lowest.Goals as goal

pub returns-then-is_empty : goal.returns-then-is_empty
returns-then-is_empty c =
    let (v, w) = lowest_empty (free c.args.taken.0 c.args.children) c.args.children c.untaken-places.result.0
    c.untaken-places.ensures (λ k h. (free_parts c.args.taken.0 c.args.children k h).0)
    (eqb-true c.untaken-places.result.0 0 (sym c.if-is_empty.ensures)) in
    record { value = v; lowest = w }

pub returns-else-is_empty : goal.returns-else-is_empty
returns-else-is_empty c =
    let some = eqb-false c.untaken-places.result.0 0 (sym c.if-is_empty.ensures) in
    let pos : 0 < c.untaken-places.result.0 = omega arith in
    let (v, w) = lowest_some (free c.args.taken.0 c.args.children) c.args.children c.untaken-places.result.0
    c.untaken-places.ensures (λ k h. (free_parts c.args.taken.0 c.args.children k h).0) pos (search rules) in
    record { value = v; lowest = w }
