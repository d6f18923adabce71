-- The sound of a steady tape, in samples. Lists of samples, of steps and of cells begin with the
-- latest.
use Rattle.std.specs.Prelude.{◌≡◌, ℕ, ◌*◌, ◌≤◌, ℤ, unsigned_abs, List, map}
use Rattle.std.specs.List.{AllByRecursion}
use Rattle.cell_path.specs.declared.cell.Cell.{Cell}
use Rattle.cell_path.specs.declared.cell.Step.{Step}
use Rattle.cell_path.specs.declared.lengths.TheConstants.{LENGTHS}
use Rattle.cell_path.specs.Lengths.{length_in}
use Rattle.path_truth.specs.Sides.{KeepsItsSides}
use Rattle.path_truth.specs.Tape.{IsSteady}

-- each sample as a step of its own, whatever the level is
abbrev pub alone : List ℤ → List Step
alone samples = map (λ (sample : ℤ). record { sound = sample; level = 1 }) samples

-- the size of a sample lies between two
pub record IsSized (low high : ℕ) (sample : ℤ) : Type 0 where
  pub least : low ≤ unsigned_abs sample
  pub most : unsigned_abs sample ≤ high

-- The sizes of all samples lie between two, of which the greater is 14/3 of the smaller at most, and
-- the smaller is the least threshold or more.
pub record KeepsItsLevel (least low high : ℕ) (samples : List ℤ) : Type 0 where
  pub some : 1 ≤ low
  pub heard : least ≤ low
  pub near : 3 * high ≤ 14 * low
  pub sizes : AllByRecursion (IsSized low high) samples

-- The samples are the sound of a steady tape: its cells have so many samples each, every sample is
-- some steps, and those of a cell make its length. Each sample is on the side of its cell, and all
-- of them keep their level.
pub record IsSoundOf (place : ℕ) (tape : List Cell) (repeats least low high : ℕ) (samples : List ℤ)
    : Type 0 where
  pub steady : IsSteady place tape
  pub many : ℕ
  pub cells : many * repeats ≡ length_in LENGTHS place
  pub sides : KeepsItsSides many (alone samples) tape
  pub level : KeepsItsLevel least low high samples
