use Rattle.std.proofs.Common.{◌≡◌, Some, None, Option, ap, ◌∙◌, arith}
use Rattle.std.proofs.lemmas.Bool.{cond_below}
use Rattle.lattice.specs.FamilyScores.{FamilyScore, parts_of}
use Rattle.lattice.proofs.FamilyDoubling.{parts_score, parts_words}
use Rattle.lattice.proofs.family.Family.subsets.Goals as goal

pub returns : goal.returns
returns c =
    let all : c.loop-layout.layout ≡ 6 = omega arith in
    record {
      score = ap {B = Option FamilyScore} Some (parts_score c.args.set c.loop-layout.layout (record { 0 = c.loop-layout.parts }) c.loop-layout.invariant all)
          ∙ cond_below c.args.set 64 (Some (parts_of c.args.set)) None c.if-set-ge64.false;
      parts = (c.if-set-ge64.false, parts_words c.args.set c.loop-layout.layout (record { 0 = c.loop-layout.parts }) c.loop-layout.invariant all c.if-set-ge64.false);
    }
