use Rattle.std.proofs.Common.{◌+◌, ◌*◌, arith}
use Rattle.vitc_reader.proofs.ByAProduct.{Halved, half_fits, halved_on}
use Rattle.vitc_reader.proofs.WholeCells.{are_cells, not_none, not_far}
use Rattle.vitc_reader.proofs.reading.cells_of.Goals as goal
use Rattle.vitc_reader.proofs.reading.cells_of.Goals.{else-cells-ge1-via-then-cells-ge1+else-product-half}
use Rattle.vitc_reader.proofs.reading.cells_of.Goals.{else-cells-ge1-via-else-cells-ge1}

pub overflow_mul-half-2 : goal.overflow_mul-half-2
overflow_mul-half-2 c =
    let below = half_fits c.args.length c.args.factor c.requires.length.1 c.requires.factor c.requires.small in
    omega (arith, below)

-- the nearest number of cells is near
pub returns-then-product-half-clause-some : goal.returns-then-product-half-clause-some
returns-then-product-half-clause-some c =
    let n = c.args.length in
    let r = c.args.run in
    let some = c.requires.length.0 in
    let longest = c.requires.length.1 in
    let fits = c.ranges.run.fits in
    let h : Halved n (460 * r + n) c.args.factor =
    halved_on n (460 * r + n) c.args.factor (omega (arith, some)) longest (omega (arith, longest, fits))
    c.requires.factor in
    rw h.quotient (are_cells n r (rw h.quotient at c.if-cells-ge1.true) (h.at_most c.if-product-half.true))

-- a number of cells would be the nearest one
pub returns-else-cells-ge1-clause-none : goal.returns-else-cells-ge1-clause-none
returns-else-cells-ge1-clause-none c = λ none k cells.
    let n = c.args.length in
    let r = c.args.run in
    let some = c.requires.length.0 in
    let longest = c.requires.length.1 in
    let fits = c.ranges.run.fits in
    let h : Halved n (460 * r + n) c.args.factor =
    halved_on n (460 * r + n) c.args.factor (omega (arith, some)) longest (omega (arith, longest, fits))
    c.requires.factor in
    elim c.else-cells-ge1.branch [
      | else-cells-ge1-via-then-cells-ge1+else-product-half w ↦ not_far n r k (omega (arith, some)) cells
          (h.above w.if-product-half.false)
      | else-cells-ge1-via-else-cells-ge1 w ↦ not_none n r k (omega (arith, some)) cells
          (rw h.quotient at w.if-cells-ge1.false)
    ]
