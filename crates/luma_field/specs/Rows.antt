-- What the rows of a field of pixels say.
use Rattle.std.specs.Prelude.{◌≡◌, ℕ, ◌+◌, List, [], ◌∷◌, take, drop, Option, Some, None}
use Rattle.std.specs.List.{AllZip}
use Rattle.luma_row.specs.declared.row.CodeRow.{CodeRow}
use Rattle.luma_row.specs.Row.{IsCode}
use Rattle.luma_field.specs.declared.found.FoundRow.{FoundRow}
use Rattle.luma_field.specs.Field.{lines_of}
use Rattle.luma_field.specs.Parts.{whole_parts}
use Rattle.luma_field.specs.Raster.{RasterSize}

-- a row carries this code, or none
abbrev pub Says : List ℕ → Option CodeRow → Type 0
Says row (Some code) = IsCode row code
Says row None = (code : CodeRow) → ¬ IsCode row code

-- those of some rows that carry code, with their numbers, where the first of all has this one
unfoldable pub found_from : ℕ → List (Option CodeRow) → List FoundRow
found_from number [] = []
found_from number (None ∷ says) = found_from (number + 1) says
found_from number (Some code ∷ says) = record { number = number; row = code } ∷ found_from (number + 1) says

-- the rows of a field that are looked at
abbrev pub looked_at : RasterSize → List (List ℕ) → List (List ℕ)
looked_at raster rows = take raster.rows (drop raster.first rows)

-- the first 20 of these that carry code
abbrev pub AreFoundIn : RasterSize → List (List ℕ) → List FoundRow → Type 0
AreFoundIn raster rows found =
    (says : List (Option CodeRow)) × AllZip Says (looked_at raster rows) says
    × (found ≡ take 20 (found_from raster.first says))

-- a field of bytes, one a pixel and row behind row, says these lines, of each the 90 bits as a number
pub record SaysLines (raster : RasterSize) (field said : List ℕ) : Type 0 where
  pub found : List FoundRow
  pub are : AreFoundIn raster (whole_parts raster.width field) found
  pub lines : said ≡ lines_of raster.width found
