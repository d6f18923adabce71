use Rattle.std.proofs.Common.{◌≡◌, ◌^◌, refl, replicate, arith}
use Rattle.luma_row.specs.Cells.{cell}
use Rattle.luma_row.specs.KeptTable.{IsFilled}
use Rattle.luma_row.proofs.Filled.{all_filled, filled_to, nothing_filled, one_filled}
use Rattle.luma_row.proofs.cells.cells_of.Goals as goal

pub loop-bit-init : goal.loop-bit-init
loop-bit-init c = nothing_filled (cell c.args.row.now c.args.place) 90 (2 ^ 24) (replicate 90 0) refl

pub loop-bit-preserved : goal.loop-bit-preserved
loop-bit-preserved c =
    one_filled (cell c.args.row.now c.args.place) 90 (2 ^ 24) c.loop-bit.bit c.cell.result c.loop-bit.cells
    c.loop-bit.invariant c.loop-bit-test.true c.cell.ensures.cell c.cell.ensures.most

filled : (c : goal.After-loop-bit) → IsFilled (cell c.args.row.now c.args.place) 90 (2 ^ 24) 90 c.loop-bit.cells
filled c =
    let all : c.loop-bit.bit ≡ 90 = omega (arith, c.loop-bit-test.false, c.loop-bit.auto.bit-end) in
    filled_to (cell c.args.row.now c.args.place) 90 (2 ^ 24) c.loop-bit.bit 90 c.loop-bit.cells all c.loop-bit.invariant

pub returns-clause-cells : goal.returns-clause-cells
returns-clause-cells c = all_filled (cell c.args.row.now c.args.place) 90 (2 ^ 24) c.loop-bit.cells (filled c)

pub returns-clause-most : goal.returns-clause-most
returns-clause-most c = (filled c).within
