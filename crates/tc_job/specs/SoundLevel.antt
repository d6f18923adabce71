-- How loud the sound of `ltc-pcm` is.
use Rattle.std.specs.Prelude.{ℕ, ◌≤◌}
use Rattle.tc_job.specs.declared.slicing.TheConstants.{MAX_LEVEL}

-- the level of samples whose opposites are samples too
abbrev pub IsLevel : ℕ → Type 0
IsLevel level = (1 ≤ level) × (level ≤ MAX_LEVEL)
