-- The sound of intervals. The form is this project's own.
use Rattle.std.specs.Prelude.{◌≡◌, ℕ, ℤ, pos, neg_ℤ, Bool, true, false, not, List, [], ◌∷◌, ◌++◌, replicate}

-- the level, whether the current interval lies above zero, and how many of its samples are still to be written
pub record MadeSound : Type 0 where
  pub level : ℕ
  pub up : Bool
  pub rest : ℕ

-- a sample of this level, above zero or below
abbrev pub level_on : Bool → ℕ → ℤ
level_on true level = pos level
level_on false level = neg_ℤ (pos level)

-- the samples of intervals, of which the first lies above zero or below, and then they change: as many as each has
-- ticks
abbrev pub samples_of : ℕ → Bool → List ℕ → List ℤ
samples_of level up [] = []
samples_of level up (x ∷ more) = replicate x (level_on up level) ++ samples_of level (not up) more

-- whether the last of intervals lies above zero, where the one before the first does
abbrev pub is_up_behind : Bool → List ℕ → Bool
is_up_behind up [] = up
is_up_behind up (x ∷ more) = is_up_behind (not up) more

-- it was given these intervals, and has written these samples: those of the intervals, but for the ones of the last
-- that are still to be written
pub record StandsFor (s : MadeSound) (ticks : List ℕ) (samples : List ℤ) : Type 0 where
  pub up : s.up ≡ is_up_behind false ticks
  pub all : samples ++ replicate s.rest (level_on s.up s.level) ≡ samples_of s.level true ticks
