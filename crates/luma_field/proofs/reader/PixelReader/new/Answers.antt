use Rattle.std.proofs.Common.{arith}
use Rattle.luma_field.proofs.RowsWhole.{no_row}
use Rattle.luma_field.proofs.reader.PixelReader.new.Goals as goal

pub returns-clause-stands : goal.returns-clause-stands
returns-clause-stands c =
    let raster = c.args.raster.now in
    let valid = c.width-width.ensures.valid in
    rw c.new-2.ensures (no_row raster (omega (arith, valid.not_too_narrow))
    (omega (arith, valid.some_rows, valid.within)))
