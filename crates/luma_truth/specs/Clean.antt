-- Drawings that are read wherever they lie in a row.
use Rattle.std.specs.Prelude.{ℕ, ◌*◌, ◌≤◌}
use Rattle.luma_truth.specs.Drawing.{Drawing}

-- The row has 720 pixels or more, and no pixel differs from what it covers by more than a 22nd of the swing. Noise is
-- counted in halves of a level, so pixels that are rounded are near enough.
pub record IsClean (drawing : Drawing) (width : ℕ) : Type 0 where
  pub large : 720 ≤ width
  pub quiet : 11 * drawing.noise ≤ drawing.swing
