-- The two-way guess: S2 S3 opposite SQ SA. The king is with seat 1, and the queen makes a trick, or alone with seat 3, and the ace drops it.
-- The value of the deal, by computation, says that a plan for either layout exists, and none for both.
use Rattle.std.proofs.Common.{◌≡◌, ℕ, ◌+◌, ◌*◌, ◌^◌, ◌<◌, true, ◌↔◌, [], ◌∷◌, None, codes, sym, refl, ap, ◌∙◌, subst, lit<, lit≤}
use lib.Count.{ones}
use Rattle.std.proofs.lemmas.Bool.{both_ways}
use Rattle.bitsets.specs.Sets.{has, members}
use Rattle.bitsets.specs.Families.{parts_below}
use Rattle.bitsets.proofs.Members.{members_length}
use Rattle.lattice.specs.FamilyScores.{family_scoring}
use Rattle.games.specs.Trees.{plain}
use Rattle.lines.specs.Deals.{plan, Deal, Valid}
use Rattle.lines.specs.Written.{written}
use Rattle.cardplay.specs.Cards.{Play, tree, legal_cards}
use Rattle.cardplay.specs.Plans.{OnePlan, start}
use Rattle.cardplay.specs.Deals.{first_play}
use Rattle.cardplay.specs.Dealing.{dealt}
use Rattle.cardplay.specs.PlanScores.{plan_score, plan_family}
use Rattle.cardplay.proofs.Dealing.{valid_dealt}
use Rattle.cardplay.proofs.Reach.{first_ones}
use Rattle.cardplay.proofs.OnePlan.{plan_theorem}

-- the card of a suit and a rank, as a set
abbrev card : ℕ → ℕ → ℕ
card s r = 2 ^ (13 * s + r)

-- two layouts, and a target of both tricks
abbrev pub guess : Deal
guess = record {
  asked = plan 2;
  trump = None;
  leader = 0;
  hand0 = card 3 0 + card 3 1;
  hand2 = card 3 10 + card 3 12;
  layouts = record { hand1 = card 3 2 + card 3 11; hand3 = card 2 0 + card 2 1 } ∷ record { hand1 = card 2 0 + card 3 2; hand3 = card 2 1 + card 3 11 } ∷ [];
}

-- as a line of text
pub guess_line : written guess ≡ codes "P,N,0,2,S2S3,SQSA,2,S4SK,H2H3,H2S4,H3SK"
unfolding has members
guess_line = refl

valid_guess : Valid guess
unfolding has members
valid_guess =
    record {
      asks = (lit≤ tt, lit≤ tt);
      trump = tt;
      leads = lit< tt;
      cards = lit< tt;
      some = lit≤ tt;
      few = lit≤ tt;
      partner = record { cards = lit< tt; many = refl; apart = refl };
      listed = lit≤ tt;
      six = lit≤ tt;
      each = (
        record { first = record { cards = lit< tt; many = refl; apart = refl }; third = record { cards = lit< tt; many = refl; apart = refl }; same = refl },
        (record { first = record { cards = lit< tt; many = refl; apart = refl }; third = record { cards = lit< tt; many = refl; apart = refl }; same = refl }, tt),
      );
    }

-- the first position
abbrev pub root : Play
root = first_play (dealt guess)

-- the value, of the tree of eight cards
computed : (plain family_scoring (λ s. s) (tree (dealt guess) (plan_score 2) 8 root)).number ≡ 0x7777777777777777
unfolding has legal_cards parts_below
computed = refl

hand_two : ones guess.hand0 ≡ 2
unfolding has members
hand_two = sym (members_length 52 guess.hand0 (lit< tt))

eight : ones root.unplayed ≡ 8
eight =
    let v = valid_dealt guess valid_guess in
    first_ones (dealt guess) v ∙ ap (λ (n : ℕ). 4 * n) (sym (v.sized 0 0 (lit< tt) (lit< tt)) ∙ hand_two)

-- the value of the first position
pub guess_value : (plan_family (dealt guess) 2 root).number ≡ 0x7777777777777777
guess_value = ap (λ (n : ℕ). (plain family_scoring (λ s. s) (tree (dealt guess) (plan_score 2) n root)).number) eight ∙ computed

-- so it has a set exactly if one plan makes both tricks in each layout of the set
pub guess_plans : (s : ℕ) → s < 64 → (has 0x7777777777777777 s ≡ true) ↔ OnePlan (dealt guess) 2 root s
guess_plans s l =
    subst (λ (x : ℕ). (has x s ≡ true) ↔ OnePlan (dealt guess) 2 root s) guess_value
    (plan_theorem (dealt guess) (valid_dealt guess valid_guess) 2 root ([], start) s l)

-- each layout can be made alone, and no plan makes both
pub guess_first : OnePlan (dealt guess) 2 root 1
unfolding has
guess_first = (guess_plans 1 (lit< tt)).0 refl

pub guess_second : OnePlan (dealt guess) 2 root 2
unfolding has
guess_second = (guess_plans 2 (lit< tt)).0 refl

pub guess_not_both : OnePlan (dealt guess) 2 root 3 → ⊥
unfolding has
guess_not_both p = both_ways (has 0x7777777777777777 3) refl ((guess_plans 3 (lit< tt)).1 p)
