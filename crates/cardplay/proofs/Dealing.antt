-- A valid problem tells a valid deal.
use Rattle.std.proofs.Common.{◌≡◌, ℕ, zero, suc, ◌^◌, ◌<◌, ◌≤◌, ◌⊎◌, length, sym, refl, ◌∙◌, inl, inr, arith}
use lib.Bits.{bit_and, bit_or, and_comm}
use lib.Count.{ones}
use lib.ListN.{length-map}
use Rattle.std.proofs.ByRecursion.{All-weaker, All-map, All-get_or}
use Rattle.std.proofs.lemmas.Bool.{both_ways, cases_lt}
use Rattle.bitsets.specs.Sets.{has}
use Rattle.bitsets.proofs.Digits.{apart, apart_out, or_has_l, or_has_r}
use Rattle.bitsets.proofs.Members.{members_length}
use Rattle.lines.specs.Spelling.{size}
use Rattle.lines.specs.Deals.{Defence, Deal, first_both, LayoutFits, Valid}
use Rattle.cardplay.specs.Cards.{Layout, hand}
use Rattle.cardplay.specs.Plans.{nowhere}
use Rattle.cardplay.specs.Deals.{layout, ValidDeal}
use Rattle.cardplay.specs.Dealing.{four_hands, dealt}

-- a set with nothing in common with two others together has nothing in common with either
apart_l : (h a b : ℕ) → bit_and h (bit_or a b) ≡ 0 → bit_and h a ≡ 0
apart_l h a b e = apart h a (λ c x y. both_ways (has (bit_or a b) c) (apart_out h (bit_or a b) c e x) (or_has_l a b c y))

apart_r : (h a b : ℕ) → bit_and h (bit_or a b) ≡ 0 → bit_and h b ≡ 0
apart_r h a b e = apart h b (λ c x y. both_ways (has (bit_or a b) c) (apart_out h (bit_or a b) c e x) (or_has_r a b c y))

-- the number of cards, by digits
size_ones : (h : ℕ) → h < 2 ^ 52 → size h ≡ ones h
size_ones h = members_length 52 h

-- what a valid deal asks of one layout
record Fair (d : Deal) (l : Layout) : Type 0 where
  sized : (k : ℕ) → ones (hand l k) ≡ ones d.hand0
  small : (k : ℕ) → hand l k < 2 ^ 52
  disjoint : (j k : ℕ) → j < 4 → k < 4 → (j ≡ k → ⊥) → bit_and (hand l j) (hand l k) ≡ 0
  own : hand l 0 ≡ d.hand0
  partner : hand l 2 ≡ d.hand2
  both : bit_or (hand l 1) (hand l 3) ≡ first_both d.layouts

module _ (d : Deal) (v : Valid d) where
  fair : (l : Defence) → LayoutFits d l → Fair d (four_hands d l)
  fair l f =
      record { sized = sized; small = small; disjoint = λ j k a b n. disjoint j k a b n (cases_lt j k); own = refl; partner = refl; both = f.same }
    where
      small : (k : ℕ) → hand (four_hands d l) k < 2 ^ 52
      small zero = v.cards
      small (suc zero) = f.first.cards
      small (suc (suc zero)) = v.partner.cards
      small (suc (suc (suc k))) = f.third.cards

      as_many : (x : ℕ) → x < 2 ^ 52 → size x ≡ size d.hand0 → ones x ≡ ones d.hand0
      as_many x s e = sym (size_ones x s) ∙ e ∙ size_ones d.hand0 v.cards

      sized : (k : ℕ) → ones (hand (four_hands d l) k) ≡ ones d.hand0
      sized zero = refl
      sized (suc zero) = as_many l.hand1 f.first.cards f.first.many
      sized (suc (suc zero)) = as_many d.hand2 v.partner.cards v.partner.many
      sized (suc (suc (suc k))) = as_many l.hand3 f.third.cards f.third.many

      -- no card of an earlier seat
      later : (j k : ℕ) → j < k → k < 4 → bit_and (hand (four_hands d l) k) (hand (four_hands d l) j) ≡ 0
      later j zero a b = absurd (omega arith)
      later zero (suc zero) a b = apart_l l.hand1 d.hand0 d.hand2 f.first.apart
      later (suc j) (suc zero) a b = absurd (omega arith)
      later zero (suc (suc zero)) a b = v.partner.apart
      later (suc zero) (suc (suc zero)) a b =
          and_comm d.hand2 l.hand1 ∙ apart_r l.hand1 d.hand0 d.hand2 f.first.apart
      later (suc (suc j)) (suc (suc zero)) a b = absurd (omega arith)
      later zero (suc (suc (suc k))) a b =
          apart_l l.hand3 d.hand0 d.hand2 (apart_l l.hand3 (bit_or d.hand0 d.hand2) l.hand1 f.third.apart)
      later (suc zero) (suc (suc (suc k))) a b = apart_r l.hand3 (bit_or d.hand0 d.hand2) l.hand1 f.third.apart
      later (suc (suc zero)) (suc (suc (suc k))) a b =
          apart_r l.hand3 d.hand0 d.hand2 (apart_l l.hand3 (bit_or d.hand0 d.hand2) l.hand1 f.third.apart)
      later (suc (suc (suc j))) (suc (suc (suc k))) a b = absurd (omega arith)

      disjoint : (j k : ℕ) → j < 4 → k < 4 → (j ≡ k → ⊥) → (j < k) ⊎ (k ≤ j) → bit_and (hand (four_hands d l) j) (hand (four_hands d l) k) ≡ 0
      disjoint j k a b n (inl o) = and_comm (hand (four_hands d l) j) (hand (four_hands d l) k) ∙ later j k o b
      disjoint j k a b n (inr o) = later k j (omega arith) a

  as_long : length (dealt d).layouts ≡ length d.layouts
  as_long = length-map d.layouts (four_hands d)

  all_fair : (i : ℕ) → i < length (dealt d).layouts → Fair d (layout (dealt d) i)
  all_fair i l =
      All-get_or (Fair d) (dealt d).layouts i nowhere l
      (All-map (Fair d) (four_hands d) d.layouts (All-weaker (LayoutFits d) (λ x. Fair d (four_hands d x)) fair d.layouts v.each))

  first_fair : Fair d (layout (dealt d) 0)
  first_fair = all_fair 0 (let s = v.listed in let e = as_long in omega arith)

-- the cards that a problem gives can be played
pub valid_dealt : (d : Deal) → Valid d → ValidDeal (dealt d)
valid_dealt d v =
    let e = as_long d v in
    let n = size_ones d.hand0 v.cards in
    record {
      some = let s = v.listed in omega arith;
      few = let s = v.six in omega arith;
      leads = v.leads;
      each = ones d.hand0;
      each_some = let s = v.some in omega arith;
      each_few = let s = v.few in omega arith;
      sized = λ i k l m. (all_fair d v i l).sized k;
      small = λ i k l m. (all_fair d v i l).small k;
      disjoint = λ i j k l. (all_fair d v i l).disjoint j k;
      same_0 = λ i l. (all_fair d v i l).own ∙ sym (first_fair d v).own;
      same_2 = λ i l. (all_fair d v i l).partner ∙ sym (first_fair d v).partner;
      same_1_3 = λ i l. (all_fair d v i l).both ∙ sym (first_fair d v).both;
    }
