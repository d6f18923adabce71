use Rattle.std.proofs.Common.{◌≡◌, ◌-◌, ◌*◌, ◌≤◌, ◌++◌}
use Rattle.arrayvec.specs.ArrayVec.{array_vec_len}
use Rattle.biphase.specs.Chain.{flat}
use Rattle.direction_reader.specs.Played.{low_bits}
use Rattle.ltc_jam.specs.Cells.{steady_cells}
use Rattle.ltc_jam.proofs.cells.cells_of.Given as goal

-- the intervals so far and those of the bits that are left are the whole
abbrev pub invariant-cells : goal.invariant-cells
invariant-cells l = record {
  cells : l.intervals.items ++ flat (steady_cells l.fn.cell (low_bits (80 - l._done) l.rest))
      ≡ flat (steady_cells l.fn.cell (low_bits 80 l.fn.bits));
  len : array_vec_len l.intervals ≤ 2 * l._done;
}
