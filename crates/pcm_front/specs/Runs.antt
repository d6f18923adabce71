-- Samples that come in runs, each run on the other side than the one before.
use Rattle.std.specs.Prelude.{◌≡◌, ℕ, ◌≤◌, ℤ, pos, List, [], ◌∷◌, ◌++◌, length, Some}
use Rattle.std.specs.List.{AllByRecursion}
use Rattle.pcm_front.specs.declared.side.Side.{Side}
use Rattle.pcm_front.specs.Side.{side_of, other_side, upward}

-- a sample lies on a side of the threshold
abbrev pub LiesOn : ℕ → Side → ℤ → Type 0
LiesOn threshold side sample = side_of threshold sample ≡ Some side

-- a sample has a size, and lies on a side of zero
abbrev pub IsOfSize : ℕ → Side → ℤ → Type 0
IsOfSize size side sample = sample ≡ upward side (pos size)

-- runs of at least one sample that fit the side of their run: the first run has a side, the next the other one, and so
-- on
abbrev pub Alternate : (Side → ℤ → Type 0) → Side → List (List ℤ) → Type 0
Alternate fits side [] = Unit {0}
Alternate fits side (run ∷ runs) =
    (1 ≤ length run) × AllByRecursion (fits side) run × Alternate fits (other_side side) runs

-- the samples of some runs, one run after another
abbrev pub joined : List (List ℤ) → List ℤ
joined [] = []
joined (run ∷ runs) = run ++ joined runs
