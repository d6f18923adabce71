-- Levels and sizes that stand higher, so that a 1024th is rounded down in both numbers. No promise speaks of them.
use Rattle.std.specs.Prelude.{ℕ, ◌+◌, ◌-◌, ◌*◌, ◌^◌, ◌≤◌, ℤ, unsigned_abs, List}
use Rattle.pcm_front.specs.declared.level.Level.{Level}
use Rattle.pcm_front.specs.declared.level.Raised.{Raised}
use Rattle.pcm_front.specs.Level.{peak_after, sum_after}
use Rattle.pcm_front.specs.Side.{sample_at}

-- the level after a size
abbrev pub level_grown : Level → ℕ → Level
level_grown level size = record { peak = peak_after level.peak size; sum = sum_after level.sum size }

-- the level that stands higher
abbrev pub lowered : Raised → Level
lowered raised = record { peak = raised.peak - 1_023; sum = raised.sum - 1_024 * 1_023 }

-- it is that of a level in its range
pub record IsRaised (raised : Raised) : Type 0 where
  pub peak_least : 1_023 ≤ raised.peak
  pub peak_most : raised.peak ≤ 2 ^ 19 + 1_023
  pub sum_least : 1_024 * 1_023 ≤ raised.sum
  pub sum_most : raised.sum ≤ 2 ^ 29 + 1_024 * 1_023

-- the size of a sample, as much higher as a peak
abbrev pub raised_size : ℤ → ℕ
raised_size sample = unsigned_abs sample + 1_023

-- that of the sample in a place
abbrev pub size_at : List ℤ → ℕ → ℕ
size_at samples place = raised_size (sample_at samples place)
