-- Worked positions, computed by the definitions that the contracts cite, each beside what it has to be.
use Rattle.std.specs.Prelude.{ℕ, ◌+◌, ◌*◌, ◌^◌, Bool, true, false, not, ◌&&◌, List, [], ◌∷◌, is_some, Some, None, Ok, Err, codes, Option, Result, ◌==◌, nat_eq}
use Rattle.lattice.specs.Scores.{meant}
use Rattle.lattice.specs.FamilyScores.{FamilyScore, family_scoring}
use Rattle.lattice.specs.Windows.{decided}
use Rattle.games.specs.declared.key.Key.{Key}
use Rattle.lines.specs.declared.fault.Fault.{Fault}
use Rattle.lines.specs.Deals.{Asked, tricks, plan, Deal}
use Rattle.lines.specs.Reading.{read_line}
use Rattle.games.specs.Trees.{plain}
use Rattle.lines.specs.Spelling.{size}
use Rattle.cardplay.specs.Cards.{tree, winner, card_key}
use Rattle.cardplay.specs.Deals.{first_play}
use Rattle.cardplay.specs.Dealing.{dealt}
use Rattle.cardplay.specs.PlanScores.{plan_score}

-- whether a number is a family, by reading it
abbrev pub is_family : ℕ → Bool
is_family n = is_some (family_scoring.decode n)

abbrev pub family : ℕ → FamilyScore
family = meant family_scoring

-- a trick with this trump suit or none, led H5, then S2, HK, H6
abbrev pub hearts_led : Option ℕ → ℕ
hearts_led t = winner (record { trump = t; layouts = []; leader = 0 }) (29 ∷ 39 ∷ 37 ∷ 30 ∷ [])

-- a test of the deal that a line says; false where the line is not accepted
abbrev pub of_line : List ℕ → (Deal → Bool) → Bool
of_line line test = by (read_line line)
  where
    by : Result Deal Fault → Bool
    by (Ok d) = test d
    by (Err f) = false

abbrev pub has_key : ℕ → ℕ → Key → Bool
has_key a b k = k.first == a && k.second == b

-- the plain value of a plan game at its first position, the tree of as many plays as there are cards
abbrev pub plain_of : Deal → Asked → ℕ
plain_of d tricks = 0
plain_of d (plan t) = (plain family_scoring (λ s. s) (tree (dealt d) (plan_score t) (4 * size d.hand0) (first_play (dealt d)))).number

-- the table: 7 is a family, and 2, 8 and 11 are none; 3 ∨ 5 is 7, and 3 ∧ 5 is 1; the bracket (1, 3) decides the window (3, top);
-- HK wins the trick with no trump, S2 with spades as trumps; the root key of a deal of one card each; the two-way guess
unfoldable pub checked : List Bool
checked =
    is_family 7
    ∷ not (is_family 2)
    ∷ not (is_family 8)
    ∷ not (is_family 11)
    ∷ ((family_scoring.join (family 3) (family 5)).number == 7)
    ∷ ((family_scoring.meet (family 3) (family 5)).number == 1)
    ∷ decided family_scoring (record { lo = family 3; hi = family_scoring.top }) (record { lo = family 1; hi = family 3 })
    ∷ (hearts_led None == 2)
    ∷ (hearts_led (Some 3) == 1)
    ∷ of_line (codes "D,N,0,SA,SK,SQ,SJ") (λ d. has_key (15 * 2 ^ 48 + 2 ^ 58) 0 (card_key (dealt d) (first_play (dealt d))))
    ∷ of_line (codes "P,N,0,2,S2S3,SQSA,2,S4SK,H2H3,H2S4,H3SK") (λ d. nat_eq (plain_of d d.asked) 0x7777777777777777)
    ∷ []

abbrev pub every : List Bool → Bool
every [] = true
every (b ∷ bs) = b && every bs
