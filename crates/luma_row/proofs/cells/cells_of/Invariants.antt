use Rattle.std.proofs.Common.{◌^◌}
use Rattle.luma_row.specs.Cells.{cell}
use Rattle.luma_row.specs.KeptTable.{IsFilled}
use Rattle.luma_row.proofs.cells.cells_of.Given as goal

abbrev pub invariant-loop-bit : goal.invariant-loop-bit
invariant-loop-bit l = IsFilled (cell l.row l.place) 90 (2 ^ 24) l.bit l.cells
