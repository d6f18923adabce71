-- Bounds of places that are worked with.
use Rattle.std.specs.Prelude.{◌^◌, ◌<◌, ◌≤◌}
use Rattle.luma_row.specs.declared.place.Place.{Place}

-- places near a row, in order
pub record IsNear (place : Place) : Type 0 where
  pub order : place.first ≤ place.last
  pub last : place.last < 2 ^ 18

-- the place of a word that ends near the row
pub record IsInRow (place : Place) : Type 0 where
  pub order : place.first < place.last
  pub last : place.last < 2 ^ 17
