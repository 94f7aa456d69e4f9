use Rattle.lattice.specs.FamilyScores.{family_scoring}
use Rattle.lattice.proofs.Codes.{code_stands}
use Rattle.lattice.specs.FamilyLaws.{family_laws}
use Rattle.lattice.proofs.family.Family.of.Goals as goal

pub returns : goal.returns
returns c a e = code_stands family_scoring family_laws a c.args.number e
