-- The law of the example game.
use Rattle.std.specs.Prelude.{◌≡◌, ℕ, zero, suc, ◌<◌, ◌≤◌, refl}
use Rattle.std.proofs.Common.{sym, ◌∙◌, ap, subst, arith, lit<, lit≤}
use Rattle.lattice.specs.declared.tricks.Tricks.{Tricks}
use Rattle.games.specs.declared.key.Key.{Key}
use Rattle.games.specs.declared.example.Example.{Example}
use Rattle.games.specs.declared.example.Example.TheVariants.{Start, Three, Left, Five, Two}
use Rattle.games.specs.Trees.{Tree, over, turn, key_of, height_of, children_of, count, child, Line, loaded, Within, Linked, Lawful}
use Rattle.games.specs.Examples.{ended, left_to_min, start, line_at}
use Rattle.games.specs.Everywhere.{everywhere}

-- the position whose key has this first word
abbrev keyed_by : ℕ → Tree Tricks
keyed_by zero = start
keyed_by (suc zero) = ended Three 3
keyed_by (suc (suc zero)) = left_to_min
keyed_by (suc (suc (suc zero))) = ended Five 5
keyed_by (suc (suc (suc (suc n)))) = ended Two 2

-- a turn has a child
abbrev Continued : Tree Tricks → Type 0
Continued (over k h s) = Unit {0}
Continued (turn k h d ts) = 1 ≤ count ts

-- what the law asks of each position
record Good (t : Tree Tricks) : Type 0 where
  few : count (children_of t) ≤ 64
  some : Continued t
  falls : (n : ℕ) → n < count (children_of t) → height_of (child t n) < height_of t
  known : t ≡ keyed_by (key_of t).first

good_ended : (e : Example) (n : ℕ) → ended e n ≡ keyed_by (key_of (ended e n)).first → Good (ended e n)
good_ended e n known = record { few = lit≤ tt; some = tt; falls = λ i h. absurd (omega arith); known = known }

falls_left : (n : ℕ) → n < 2 → height_of (child left_to_min n) < 1
falls_left zero h = lit< tt
falls_left (suc zero) h = lit< tt
falls_left (suc (suc n)) h = absurd (omega arith)

falls_start : (n : ℕ) → n < 2 → height_of (child start n) < 2
falls_start zero h = lit< tt
falls_start (suc zero) h = lit< tt
falls_start (suc (suc n)) h = absurd (omega arith)

good : {t : Tree Tricks} → Within t start → Good t
good = everywhere Good (
  record { few = lit≤ tt; some = lit≤ tt; falls = falls_start; known = refl },
  (
    good_ended Three 3 refl,
    (
      (
        record { few = lit≤ tt; some = lit≤ tt; falls = falls_left; known = refl },
        (good_ended Five 5 refl, (good_ended Two 2 refl, tt)),
      ),
      tt,
    ),
  ),
)

-- the law for a line that begins at the start
lawful_from : (l : Line Tricks) → loaded l ≡ start → Linked l.present l.earlier → Lawful l
lawful_from l e linked =
    let good_in : (t : Tree Tricks) → Within t (loaded l) → Good t =
    λ t w. good (subst (λ (x : Tree Tricks). Within t x) e w)
    in
    record {
      linked = linked;
      few = λ t w. (good_in t w).few;
      some = λ k h d ts w. (good_in (turn k h d ts) w).some;
      falls = λ t n w h. (good_in t w).falls n h;
      low = subst (λ (x : Tree Tricks). height_of x ≤ 65535) (sym e) (lit≤ tt);
      keyed = λ t u w w' same.
          (good_in t w).known ∙ ap (λ (k : Key). keyed_by k.first) same ∙ sym (good_in u w').known;
    }

pub example_lawful : (e : Example) → Lawful (line_at e)
example_lawful Start = lawful_from (line_at Start) refl tt
example_lawful Three = lawful_from (line_at Three) refl ((0, lit< tt, refl), tt)
example_lawful Left = lawful_from (line_at Left) refl ((1, lit< tt, refl), tt)
example_lawful Five = lawful_from (line_at Five) refl ((0, lit< tt, refl), ((1, lit< tt, refl), tt))
example_lawful Two = lawful_from (line_at Two) refl ((1, lit< tt, refl), ((1, lit< tt, refl), tt))
