-- Where a word is read in a drawing, and how much light is enough there.
use Rattle.std.specs.Prelude.{ℕ, ◌+◌, ◌*◌, ◌/◌, ◌<◌, ◌≤◌}
use Rattle.luma_row.specs.declared.place.Place.{Place}
use Rattle.luma_row.specs.Place.{apart, eighth}
use Rattle.luma_truth.specs.Drawing.{Drawing, edge}

-- the middle six eighths of each cell of the word at a place, its cores, lie in the cells of the drawing
pub record LiesInside (drawing : Drawing) (place : Place) : Type 0 where
  pub in_row : 7 * apart place ≤ 640 * place.first
  pub begins : (bit : ℕ) → bit < 90 → edge drawing bit ≤ 640 * eighth place (8 * bit + 1)
  pub ends : (bit : ℕ) → bit < 90 → 640 * eighth place (8 * bit + 7) ≤ edge drawing (bit + 1)

-- the core of a cell is its middle six eighths: so many whole sixteenths of a pixel
abbrev pub core : Place → ℕ
core place = 6 * apart place / 640

-- The swing outweighs what can speak against it: the noise, in halves of a level, in the pixels of a cell and in the
-- darkest pixel of the row, from which light is counted; and eight sixteenths of the swing in the pixels at both ends of
-- a cell.
abbrev pub IsEnough : ℕ → ℕ → ℕ → Type 0
IsEnough swing noise core = 102 * (noise * (2 * core + 3)) + 2299 * swing ≤ 70 * (swing * core)

-- the drawing has this margin at a place
abbrev pub HasMargin : Drawing → Place → Type 0
HasMargin drawing place = IsEnough drawing.swing drawing.noise (core place)
