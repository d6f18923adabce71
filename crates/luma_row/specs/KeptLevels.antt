-- Bounds of the swing and of the heights.
use Rattle.std.specs.Prelude.{ℕ, ◌≤◌}
use Rattle.luma_row.specs.declared.levels.Levels.{Levels}
use Rattle.luma_row.specs.KeptHeights.{AreHeights}

-- the swing and the heights of a row are at most these
pub record AreLevels (swing height : ℕ) (levels : Levels) : Type 0 where
  pub swing_few : levels.swing ≤ swing
  pub heights_few : AreHeights height levels.heights
