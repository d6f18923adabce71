-- A clean drawing is found at its sharp place, which lies inside: so its row says its word and nothing else.
use Rattle.std.proofs.Common.{◌≡◌, ℕ, ◌<◌, ◌≤◌, ◌++◌, ◌∷◌, inl, true, List, length, subst, arith}
use Rattle.luma_field.specs.Parts.{whole_parts}
use Rattle.luma_field.specs.Raster.{RasterSize}
use Rattle.luma_field.specs.Rows.{looked_at, SaysLines}
use Rattle.luma_row.specs.declared.place.Place.{Place}
use Rattle.luma_row.specs.declared.row.CodeRow.{CodeRow}
use Rattle.luma_row.specs.Edges.{IsSharp}
use Rattle.luma_row.specs.Levels.{number_of, says_bits}
use Rattle.luma_row.specs.Light.{IsRow}
use Rattle.luma_row.specs.Row.{IsCode}
use Rattle.luma_truth.specs.Clean.{IsClean}
use Rattle.luma_truth.specs.Drawing.{Drawing, FitsARow, IsDrawn}
use Rattle.luma_truth.specs.Near.{IsNear}
use Rattle.luma_truth.proofs.CleanDrawing.{carries_its_word}
use Rattle.luma_truth.proofs.EdgesOfPairs.{FirstWithin}
use Rattle.luma_truth.proofs.LineOfAField.{has_the_line_of, OneCode}
use Rattle.luma_truth.proofs.SharpPlace.{is_found_at}

pub is_near : FirstWithin → (drawing : Drawing) (row : List ℕ) → IsRow row → IsDrawn drawing row
    → IsClean drawing (length row) → (place : Place) × IsSharp row place × IsNear drawing place
is_near first drawing row row_is is clean =
    let found = is_found_at first drawing row row_is is clean in
    (found.0, found.1.sharp, found.1.near)

pub is_read : FirstWithin → (drawing : Drawing) (row : List ℕ) → IsRow row → IsDrawn drawing row
    → IsClean drawing (length row)
    → (code : CodeRow) × IsCode row code × (says_bits code.levels ≡ true) × (number_of code.levels ≡ drawing.word)
is_read first drawing row row_is is clean =
    let found = is_found_at first drawing row row_is is clean in
    let code = carries_its_word drawing row found.0 row_is is (inl found.1.sharp) found.1.inside found.1.margin in
    (code.0, code.1, code.3, code.4)

-- and no other word is
pub only_its_word : FirstWithin → OneCode → (drawing : Drawing) (row : List ℕ) (code : CodeRow) → IsRow row
    → IsDrawn drawing row → IsClean drawing (length row) → IsCode row code
    → (says_bits code.levels ≡ true) × (number_of code.levels ≡ drawing.word)
only_its_word first one drawing row code row_is is clean read =
    let found = is_read first drawing row row_is is clean in
    subst (λ (c : CodeRow). (says_bits c.levels ≡ true) × (number_of c.levels ≡ drawing.word))
    (one row found.0 code found.1 read) (found.2, found.3)

-- so a field has its line
pub has_the_line : FirstWithin → OneCode → (drawing : Drawing) (raster : RasterSize) (field lines row : List ℕ)
    (before behind : List (List ℕ)) → IsRow row → IsDrawn drawing row → IsClean drawing (length row)
    → looked_at raster (whole_parts raster.width field) ≡ before ++ (row ∷ behind)
    → length before < 20 → SaysLines raster field lines
    → (first rest : List ℕ) × (lines ≡ first ++ (drawing.word ∷ rest))
has_the_line first one drawing raster field lines row before behind row_is is clean looked few said =
    let found = is_read first drawing row row_is is clean in
    has_the_line_of one drawing.word raster field lines row before behind found.0 found.1 found.2 found.3 looked few
    said

-- pixels that are rounded, and no worse, are near enough
pub is_clean : (drawing : Drawing) (width : ℕ) → FitsARow drawing width → 720 ≤ width → drawing.noise ≤ 1
    → IsClean drawing width
is_clean drawing width fits large few =
    let levels = fits.levels in
    record { large = large; quiet = omega (arith, levels, few) }
