-- Unfinished paths: they end with one of the latest steps, and the cell behind their end may still go on. Lists of
-- steps and of cells begin with the latest.
use Rattle.std.specs.Prelude.{◌≡◌, ℕ, ◌+◌, ◌<◌, ◌≤◌, ℤ, pos, ◌-ℤ◌, ◌<ℤ◌, ◌⊎◌, unsigned_abs, List, [], ◌∷◌, length, drop}
use Rattle.cell_path.specs.declared.cell.Cell.{Cell}
use Rattle.cell_path.specs.declared.cell.Step.{Step}
use Rattle.cell_path.specs.declared.lacks.TheConstants.{LATEST}
use Rattle.cell_path.specs.Best.{IsBestOfAll}
use Rattle.cell_path.specs.Path.{score, IsPath}

-- the sizes of the sound, summed
unfoldable pub sum_of_sizes : List Step → ℕ
sum_of_sizes [] = 0
sum_of_sizes (step ∷ steps) = unsigned_abs step.sound + sum_of_sizes steps

-- what the score of a path lacks of that sum, which none exceeds
abbrev pub lack : List ℕ → List Step → List Cell → ℤ
lack lengths steps path = pos (sum_of_sizes steps) -ℤ score lengths steps path

-- the path ended so many steps ago, with one of the latest
pub record IsUnfinished (lengths : List ℕ) (steps : List Step) (ago : ℕ) (path : List Cell) : Type 0 where
  pub latest : ago < LATEST
  pub within : ago < length steps
  pub is_path : IsPath lengths (drop ago steps) path

-- a path that lacks less wins over another, and of two that lack as much the one that does not end earlier
abbrev pub LacksLess : ℤ → ℕ → ℤ → ℕ → Type 0
LacksLess less ago more other = (less <ℤ more) ⊎ ((less ≡ more) × (ago ≤ other))

-- of all unfinished paths it lacks least, and of those that end where it does it is the best
pub record IsBestUnfinished (lengths : List ℕ) (steps : List Step) (ago : ℕ) (path : List Cell) : Type 0 where
  pub latest : ago < LATEST
  pub within : ago < length steps
  pub is_best : IsBestOfAll lengths (drop ago steps) path
  pub wins : (other : ℕ) (others : List Cell) → IsUnfinished lengths steps other others
      → LacksLess (lack lengths (drop ago steps) path) ago (lack lengths (drop other steps) others) other
