use Rattle.std.proofs.Common.{refl}
use Rattle.luma_field.specs.Rows.{found_from}
use Rattle.luma_field.proofs.laws.twenty_rows_are_found.Goals as goal

pub returns : goal.returns
returns c = λ raster rows found are. let (says, all, first) = are in (found_from raster.first says, says, all, refl, first)
