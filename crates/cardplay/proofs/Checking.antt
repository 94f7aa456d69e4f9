-- The worked positions, by computation.
use Rattle.std.proofs.Common.{◌≡◌, true, refl}
use Rattle.bitsets.specs.Sets.{has, members}
use Rattle.bitsets.specs.Families.{parts_below}
use Rattle.bitsets.proofs.FamilyTest.{family_by, family_or_not}
use Rattle.cardplay.specs.Cards.{legal_cards}
use Rattle.cardplay.specs.Checked.{checked, every}

pub all_checked : every checked ≡ true
unfolding has members parts_below family_by family_or_not legal_cards checked
all_checked = refl
