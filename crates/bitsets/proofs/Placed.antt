-- The place of a member in a word of 64 bits, as goals print it.
use Rattle.std.proofs.Common.{◌≡◌, ℕ, ◌-◌, ◌*◌, ◌%◌, ◌^◌, ◌<◌, ◌≤◌, true, length, get_or, bit_and, arith, pow_pos}
use lib.Count.{ones}
use Rattle.std.proofs.lemmas.Nat.{one_shl}
use Rattle.bitsets.specs.Sets.{has, members}
use Rattle.bitsets.proofs.Digits.{has_below}
use Rattle.bitsets.proofs.Members.{members_length, members_place, place_below}

pub member_fits : (x m : ℕ) → has x m ≡ true → x < 2 ^ 64 → m < 64
member_fits x m h f = has_below 64 x m f h

pub one_shifted : (m : ℕ) → m < 64 → 1 ≤ (1 * 2 ^ m) % 18446744073709551616
one_shifted m l = omega (arith, one_shl m 64 l, pow_pos m)

-- as many members are below it as its place says
pub placed_within : (x m n : ℕ) → has x m ≡ true → x < 2 ^ 64 → x < 2 ^ n
    → ones (bit_and x ((1 * 2 ^ m) % 18446744073709551616 - 1)) < length (members n x)
placed_within x m n h f l =
    let p = place_below x m h in let s = members_length n x l in rw (one_shl m 64 (has_below 64 x m f h)) (omega arith)

pub placed_at : (x m n : ℕ) → has x m ≡ true → x < 2 ^ 64 → x < 2 ^ n
    → get_or (members n x) (ones (bit_and x ((1 * 2 ^ m) % 18446744073709551616 - 1))) 0 ≡ m
placed_at x m n h f l = rw (one_shl m 64 (has_below 64 x m f h)) (members_place n x m h (has_below n x m l h))
