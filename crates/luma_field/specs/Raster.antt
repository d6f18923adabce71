-- How the fields of a picture lie in bytes, and which of their rows are looked at.
use Rattle.std.specs.Prelude.{ℕ, ◌+◌, ◌*◌, ◌≤◌}
use Rattle.luma_row.specs.declared.width.TheConstants.{MIN_WIDTH, MAX_WIDTH}
use Rattle.luma_field.specs.declared.raster.TheConstants.{MAX_HEIGHT, MAX_ROWS}

-- the pixels of a row, the rows of a field, the first row that is looked at, and how many are
pub record RasterSize : Type 0 where
  pub width : ℕ
  pub height : ℕ
  pub first : ℕ
  pub rows : ℕ

-- a raster, by its parts
abbrev pub raster_of : ℕ → ℕ → ℕ → ℕ → RasterSize
raster_of width height first rows = record { width = width; height = height; first = first; rows = rows }

-- some rows and not too many, which stand in the field
pub record IsRaster (raster : RasterSize) : Type 0 where
  pub not_too_narrow : MIN_WIDTH ≤ raster.width
  pub not_too_wide : raster.width ≤ MAX_WIDTH
  pub some_rows : 1 ≤ raster.rows
  pub not_too_many : raster.rows ≤ MAX_ROWS
  pub within : raster.first + raster.rows ≤ raster.height
  pub not_too_high : raster.height ≤ MAX_HEIGHT

-- the bytes of a field
abbrev pub size_of : RasterSize → ℕ
size_of raster = raster.width * raster.height
