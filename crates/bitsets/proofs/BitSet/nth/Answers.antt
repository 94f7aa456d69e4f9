use Rattle.std.proofs.Common.{◌≡◌, ℕ, ◌-◌, ◌^◌, ◌<◌, ◌≤◌, List, length, get_or, drop, sym, ap, ◌∙◌, subst, arith, rules}
use Rattle.std.proofs.lemmas.Nat.{and_le_l}
use Rattle.bitsets.specs.Sets.{members}
use Rattle.bitsets.proofs.Lowest.{pass, passed_all, at_place}
use Rattle.bitsets.proofs.Members.{members_any, members_at}
use Rattle.bitsets.proofs.BitSet.nth.Goals as goal

-- none is left, whatever the bound
none_left : (x p q : ℕ) → x < 2 ^ 64 → members 64 0 ≡ drop p (members 64 x) → p ≤ q → (n : ℕ) → x < 2 ^ n → length (members n x) ≤ q
none_left x p q f e l n h =
    let a = passed_all 64 x p e in let b = ap length (members_any n 64 x h f) in omega arith

-- the next one, whatever the bound
next_one : (x p d : ℕ) → x < 2 ^ 64 → (p < length (members 64 x)) × (get_or (members 64 x) p 0 ≡ d)
    → (n : ℕ) → x < 2 ^ n → (p < length (members n x)) × (get_or (members n x) p 0 ≡ d) × (d < n)
next_one x p d f at n h =
    let (a, b) : (p < length (members n x)) × (get_or (members n x) p 0 ≡ d) =
    subst (λ (xs : List ℕ). (p < length xs) × (get_or xs p 0 ≡ d)) (members_any 64 n x f h) at in
    let (e, l, g, i, o) = members_at n x p a in
    (a, b, omega arith)

pub loop-passed-preserved : goal.loop-passed-preserved
loop-passed-preserved c =
    let pos : 0 < c.loop-passed.rest = omega arith in
    let less = and_le_l c.loop-passed.rest (c.loop-passed.rest - 1) in
    let (low, left) = c.loop-passed.invariant in
    (omega arith, pass 64 c.loop-passed.rest c.args.self.0 c.loop-passed._passed pos low left)

pub returns-then-rest-eq0 : goal.returns-then-rest-eq0
returns-then-rest-eq0 c =
    none_left c.args.self.0 c.loop-passed._passed c.args.place (search rules)
    (ap (members 64) (sym c.if-rest-eq0.true) ∙ c.loop-passed.invariant.1) (omega arith)

pub returns-then-rest-eq0-2 : goal.returns-then-rest-eq0-2
returns-then-rest-eq0-2 c =
    none_left c.args.self.0 c.loop-passed._passed c.args.place (search rules)
    (ap (members 64) (sym c.if-rest-eq0-2.true) ∙ c.loop-passed.invariant.1) (omega arith)

pub returns-else-rest-eq0-2 : goal.returns-else-rest-eq0-2
returns-else-rest-eq0-2 c =
    let e : c.loop-passed._passed ≡ c.args.place = omega arith in
    let pos : 0 < c.loop-passed.rest = omega arith in
    next_one c.args.self.0 c.args.place _ (search rules)
    (at_place 64 c.loop-passed.rest c.args.self.0 c.args.place pos c.loop-passed.invariant.0
    (c.loop-passed.invariant.1 ∙ ap (λ (n : ℕ). drop n (members 64 c.args.self.0)) e))
