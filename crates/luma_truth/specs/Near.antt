-- A place near the one that was drawn.
use Rattle.std.specs.Prelude.{ℕ, ◌+◌, ◌*◌, ◌≤◌}
use Rattle.luma_row.specs.declared.place.Place.{Place}
use Rattle.luma_row.specs.Place.{apart}
use Rattle.luma_truth.specs.Drawing.{edge, Drawing}

-- two numbers are at most a twelfth of the first one apart
pub record AreClose (whole a b : ℕ) : Type 0 where
  pub above : 12 * a ≤ 12 * b + whole
  pub below : 12 * b ≤ 12 * a + whole

-- Both ends of the place, where the 1s of the first and of the ninth sync pair end, lie within a twelfth of a cell of
-- where these 1s were drawn to end; and the first core at the place begins in the row.
pub record IsNear (drawing : Drawing) (place : Place) : Type 0 where
  pub in_row : 7 * apart place ≤ 640 * place.first
  pub first : AreClose drawing.cell (640 * place.first) (edge drawing 1)
  pub last : AreClose drawing.cell (640 * place.last) (edge drawing 81)
