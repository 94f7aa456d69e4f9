use Rattle.std.proofs.Common.{inl, inr, ⊎_elim, rules}
use Rattle.policies.proofs.Masks.{has_untaken, has_outside}
use Rattle.policies.proofs.untaken.untaken.Goals as goal

pub returns-then-children-gt64 : goal.returns-then-children-gt64
returns-then-children-gt64 c k =
    has_outside c.args.taken.0 c.args.children k (⊎_elim (λ e. inl e) (λ h. inr h.1) c.if-children-gt64.either)

pub returns-else-children-gt64 : goal.returns-else-children-gt64
returns-else-children-gt64 c k =
    has_untaken c.args.taken.0 c.args.children k (search rules) c.if-children-gt64.false.1
