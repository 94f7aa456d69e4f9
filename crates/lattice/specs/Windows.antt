-- Brackets of scores: as bounds of a value, and as windows that show a value only as far as its clamp.
use Rattle.std.specs.Prelude.{◌≡◌, ℕ, Bool, true, cond, ◌&&◌, ◌↔◌, Some, None, Option}
use Rattle.lattice.specs.declared.bracket.Bracket.{Bracket}
use Rattle.lattice.specs.Scores.{Scoring}

-- the bracket of the scores that a bracket's values stand for
abbrev pub scored : {A C : Type 0} → (A → C) → Bracket A → Bracket C
scored f b = record { lo = f b.lo; hi = f b.hi }

-- the bracket of one score
abbrev pub point : {C : Type 0} → C → Bracket C
point v = record { lo = v; hi = v }

-- the bracket of all scores: as a window it shows every score as it is
abbrev pub whole : {C : Type 0} → Scoring C → Bracket C
whole o = record { lo = o.bottom; hi = o.top }

-- two scores as a bracket, if both are there
abbrev pub paired : {C : Type 0} → Option C → Option C → Option (Bracket C)
paired None h = None
paired (Some l) None = None
paired (Some l) (Some h) = Some (record { lo = l; hi = h })

module _ {C : Type 0} (s : Scoring C) where
  -- a is at or below b
  abbrev pub Under : C → C → Type 0
  Under a b = s.join a b ≡ b

  -- the bracket holds the value v
  pub record Around (b : Bracket C) (v : C) : Type 0 where
    pub low : Under b.lo v
    pub high : Under v b.hi

  -- the clamp of v in the window w
  abbrev pub clamped : Bracket C → C → C
  clamped w v = s.join w.lo (s.meet v w.hi)

  -- whether two scores are equal
  abbrev pub same : C → C → Bool
  same a b = s.below a b && s.below b a

  -- whether the bracket b decides the window w: whether its ends have the same clamp there
  abbrev pub decided : Bracket C → Bracket C → Bool
  decided w b = same (clamped w b.lo) (clamped w b.hi)

  -- the answer r to whether the bracket b decides the window w
  pub record Decision (w b : Bracket C) (r : Bool) : Type 0 where
    pub test : r ≡ decided w b
    -- it is yes exactly if the ends have the same clamp
    pub ends : (r ≡ true) ↔ (clamped w b.lo ≡ clamped w b.hi)
    -- and then every value in the bracket has that clamp
    pub all : r ≡ true → (v : C) → Around b v → clamped w v ≡ clamped w b.lo

  -- a bracket if it decides the window w
  abbrev pub if_decided : Bracket C → Option (Bracket C) → Option (Bracket C)
  if_decided w None = None
  if_decided w (Some b) = cond (decided w b) (Some b) None

  -- the bracket with the codes l and h, if both are codes and it decides the window w
  abbrev pub read_decided : ℕ → ℕ → Bracket C → Option (Bracket C)
  read_decided l h w = if_decided w (paired (s.decode l) (s.decode h))
