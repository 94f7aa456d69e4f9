-- Where the course of play stands, and how it goes on and back.
use Rattle.std.specs.Prelude.{◌≡◌, ℕ, ◌<◌, ◌≤◌, Bool, true, false, cond, List, [], ◌∷◌, length, Some, None, Option, MatchOption, ◌==◌, nat_lt, slice_index}
use Rattle.cards.specs.declared.card.Card.{Card}
use Rattle.cards.specs.Codes.{card_code}
use Rattle.games.specs.declared.side.Side.{Side}
use Rattle.games.specs.Trees.{Line}
use Rattle.cardplay.specs.Cards.{Dealt, Play, legal, legal_cards, after_card, side}
use Rattle.cardplay.specs.Deals.{first_play, card_line}
use Rattle.deals.specs.declared.course.Course.{Course}
use Rattle.deals.specs.Dealing.{dealt_of}
use Rattle.deals.specs.States.{play_of}

-- the deal, the present state, and those before it, the latest first
pub record Stand : Type 0 where
  pub deal : Dealt
  pub present : Play
  pub earlier : List Play

abbrev pub stand_of : Course → Stand
stand_of c = record { deal = dealt_of c.problem; present = play_of c.present; earlier = c.past }

-- at the first state of a deal
abbrev pub first_stand : Dealt → Stand
first_stand d = record { deal = d; present = first_play d; earlier = [] }

-- the legal cards, in rising code, and whether a card is one of them
abbrev pub choices : Stand → List ℕ
choices s = legal_cards s.deal s.present

abbrev pub can_choose : Stand → ℕ → Bool
can_choose s c = legal s.deal s.present c

-- the answer to which card stands at a place among them, and to which place a card has
abbrev pub CardAt : Stand → ℕ → Option Card → Type 0
CardAt s n r = MatchOption r (length (choices s) ≤ n) (λ c. (n < length (choices s)) × (slice_index (choices s) n ≡ card_code c))

abbrev pub PlaceOf : Stand → ℕ → Option ℕ → Type 0
PlaceOf s c r = MatchOption r (can_choose s c ≡ false) (λ n. (n < length (choices s)) × (slice_index (choices s) n ≡ c))

-- the side to play; none where all cards are played
abbrev pub next_side : Stand → Option Side
next_side s = cond (s.present.unplayed == 0) None (Some (side s.deal s.present))

-- once a legal card is played
abbrev pub after_legal : Stand → ℕ → Stand
after_legal s c = record { deal = s.deal; present = after_card s.deal s.present c; earlier = s.present ∷ s.earlier }

-- whether there is a legal card at a place, and where it leads; nothing changes where there is none
abbrev pub can_go_on : Stand → ℕ → Bool
can_go_on s n = nat_lt n (length (choices s))

abbrev pub after_place : Stand → ℕ → Stand
after_place s n = cond (can_go_on s n) (after_legal s (slice_index (choices s) n)) s

abbrev pub some_before : List Play → Bool
some_before [] = false
some_before (q ∷ qs) = true

-- whether there is a state before, and the stand once the last card is taken back; nothing changes at the first state
abbrev pub can_go_back : Stand → Bool
can_go_back s = some_before s.earlier

abbrev pub before_last : Dealt → Play → List Play → Stand
before_last d p [] = record { deal = d; present = p; earlier = [] }
before_last d p (q ∷ qs) = record { deal = d; present = q; earlier = qs }

abbrev pub after_back : Stand → Stand
after_back s = before_last s.deal s.present s.earlier

-- the line of positions of a game that scores the last state
abbrev pub line_of : {S : Type 0} → (Play → S) → Stand → Line S
line_of score s = card_line s.deal score s.present s.earlier
