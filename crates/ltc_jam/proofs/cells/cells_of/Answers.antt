use Rattle.std.proofs.Common.{◌≡◌, ◌∙◌, ◌++◌, arith, List, Bool, ap, sym, append-nil}
use Rattle.biphase.specs.Chain.{flat}
use Rattle.ltc_jam.specs.Cells.{steady_cells}
use Rattle.ltc_jam.proofs.Steady.{cell_more, no_bits_left}
use Rattle.direction_reader.specs.PlayedLemmas.{low_bits-more}
use Rattle.ltc_jam.proofs.cells.cells_of.Goals as goal

-- one cell more
pub cells-preserved : goal.cells-preserved
cells-preserved c = record {
  cells =
      cell_more c.cells.intervals.items c.push_cell.new.intervals.items _ c.args.cell _ _ _ c.push_cell.ensures.items
      (low_bits-more c.cells._done 80 c.cells.rest c.cells-test.true) c.cells.invariant.cells;
  len = omega arith;
}

-- no bit is left
pub returns : goal.returns
returns c =
    let done : c.cells._done ≡ 80 = omega arith in
    sym (append-nil c.cells.intervals.items)
    ∙ ap (λ (list : List Bool). c.cells.intervals.items ++ flat (steady_cells c.args.cell list))
    (sym (no_bits_left c.cells._done c.cells.rest done))
    ∙ c.cells.invariant.cells
