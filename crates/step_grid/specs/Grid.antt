-- How samples become steps. The rule is this project's own.
use Rattle.std.specs.Prelude.{◌≡◌, ℕ, ◌+◌, ◌*◌, ◌<◌, ◌≤◌}
use Rattle.step_grid.specs.declared.grid.Grid.{Grid}
use Rattle.step_grid.specs.declared.grid.Grid.TheVariants.{Repeat, Sum}
use Rattle.step_grid.specs.declared.grid.TheConstants.{MAX_REPEATS, MAX_SUMMED}

-- from one to eight steps for a sample, or as many samples for a step as may be summed
abbrev pub IsGrid : Grid → Type 0
IsGrid (Repeat repeats) = (1 ≤ repeats) × (repeats ≤ MAX_REPEATS)
IsGrid (Sum summed) = (2 ≤ summed) × (summed ≤ MAX_SUMMED)

-- this many steps are made of the samples: some of each, or one of as many as are summed, where fewer may be left
abbrev pub AreStepsOf : Grid → ℕ → ℕ → Type 0
AreStepsOf (Repeat repeats) samples steps = steps ≡ samples * repeats
AreStepsOf (Sum summed) samples steps = (steps * summed ≤ samples) × (samples < (steps + 1) * summed)
