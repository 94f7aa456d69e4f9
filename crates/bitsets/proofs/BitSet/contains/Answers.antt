use Rattle.std.proofs.Common.{sym, ◌∙◌, rules}
use Rattle.std.proofs.lemmas.Bool.{le-ltb}
use Rattle.bitsets.proofs.Digits.{shr_test, has_high}
use Rattle.bitsets.proofs.BitSet.contains.Goals as goal

pub returns-then-member-lt64 : goal.returns-then-member-lt64
returns-then-member-lt64 c = shr_test c.args.self.0 c.args.member

pub returns-else-member-lt64 : goal.returns-else-member-lt64
returns-else-member-lt64 c =
    le-ltb c.args.member 64 c.if-member-lt64.false
    ∙ sym (has_high 64 c.args.self.0 c.args.member (search rules) c.if-member-lt64.false)
