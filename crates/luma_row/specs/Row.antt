-- A row that carries code, and what its cells say.
use Rattle.std.specs.Prelude.{◌≡◌, ℕ, ◌-◌, ◌*◌, ◌<◌, ◌⊎◌, leb, Bool, true, List}
use Rattle.luma_row.specs.declared.light.TheConstants.{EVEN}
use Rattle.luma_row.specs.declared.place.Place.{Place}
use Rattle.luma_row.specs.declared.row.CodeRow.{CodeRow}
use Rattle.luma_row.specs.Cells.{cells_of, counts, swing}
use Rattle.luma_row.specs.Climb.{IsPlace}
use Rattle.luma_row.specs.Coarse.{IsCoarse}
use Rattle.luma_row.specs.Earliest.{earliest}
use Rattle.luma_row.specs.Edges.{IsSharp}
use Rattle.luma_row.specs.Heights.{heights_of}
use Rattle.luma_row.specs.Light.{darkest, lightest}

-- two of its pixels are eight levels apart
abbrev pub has_contrast : List ℕ → Bool
has_contrast row = leb 8 (lightest row - darkest row)

-- where a word is found that is sought: its sync pairs fall at the coarse place, which is made finer, and the earliest
-- place is taken at which all of them fall
pub record IsSought (row : List ℕ) (place : Place) : Type 0 where
  pub coarse : Place
  pub sum : ℕ
  pub is_coarse : IsCoarse row sum coarse
  pub falls : 9 * EVEN < sum
  pub deepest : Place
  pub fine : IsPlace row coarse deepest
  pub earliest_is : place ≡ earliest row deepest

-- where a word lies in a row: at the sharp place, and in a row without one where it is found that is sought
abbrev pub LiesAt : List ℕ → Place → Type 0
LiesAt row place = IsSharp row place ⊎ (((other : Place) → ¬ IsSharp row other) × IsSought row place)

-- the row carries code: a word lies in it, and it counts
pub record IsCode (row : List ℕ) (code : CodeRow) : Type 0 where
  pub contrast : has_contrast row ≡ true
  pub lies : LiesAt row code.place
  pub it_counts : counts code.place (cells_of row code.place) ≡ true
  pub swing_is : code.levels.swing ≡ swing (cells_of row code.place)
  pub heights_are : code.levels.heights ≡ heights_of (cells_of row code.place)
