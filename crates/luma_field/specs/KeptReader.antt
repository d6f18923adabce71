-- What a reader of fields keeps.
use Rattle.std.specs.Prelude.{◌≡◌, ℕ, ◌<◌, ◌≤◌, ◌+◌, List, length}
use Rattle.std.specs.List.{concat, All}
use Rattle.luma_field.specs.declared.found.FoundRow.{FoundRow}
use Rattle.luma_field.specs.Raster.{size_of, RasterSize}
use Rattle.luma_field.specs.Rows.{AreFoundIn}

-- how many rows of a field there are so far, and those that carry code
pub record FieldReading : Type 0 where
  pub raster : RasterSize
  pub number : ℕ
  pub found : List FoundRow

-- what a reader of fields keeps, by its parts
abbrev pub reading_of : RasterSize → ℕ → List FoundRow → FieldReading
reading_of raster number found = record { raster = raster; number = number; found = found }

-- it stands in a field
pub record IsInField (s : FieldReading) : Type 0 where
  pub number : s.number < s.raster.height
  pub few : length s.found ≤ 20

-- a row is looked at
abbrev pub IsLooked : RasterSize → ℕ → Type 0
IsLooked raster number = (raster.first ≤ number) × (number < raster.first + raster.rows)

-- these are the bytes of the first rows of a field, and not of all
pub record StandsFor (s : FieldReading) (part : List ℕ) : Type 0 where
  pub rows : List (List ℕ)
  pub wide : All (λ row. length row ≡ s.raster.width) rows
  pub number : s.number ≡ length rows
  pub found : AreFoundIn s.raster rows s.found
  pub are : part ≡ concat rows
  pub few : length part < size_of s.raster
  -- another one has room behind them
  pub room : length part + s.raster.width ≤ size_of s.raster
