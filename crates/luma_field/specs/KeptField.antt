-- Bounds of the rows of a field.
use Rattle.std.specs.Prelude.{◌^◌, List}
use Rattle.std.specs.List.{All}
use Rattle.luma_row.specs.KeptLevels.{AreLevels}
use Rattle.luma_field.specs.declared.found.FoundRow.{FoundRow}

-- no swing and no height of these rows is too great
abbrev pub AreFound : List FoundRow → Type 0
AreFound rows = All (λ found. AreLevels (2 ^ 28) (2 ^ 35) found.row.levels) rows
