use Rattle.std.proofs.Common.{◌≡◌, ◌+◌, ◌-◌, ◌*◌, ◌≤◌, ◌++◌, Bool, List}
use Rattle.arrayvec.specs.ArrayVec.{array_vec_len}
use Rattle.direction_reader.specs.Played.{low_bits}
use Rattle.made_commands.specs.KeptStriping.{cell_bytes}
use Rattle.made_commands.proofs.ltc_make.write_bits.Given as goal

-- what was written and the cells of the bits that are left are the whole
abbrev pub invariant-cells : goal.invariant-cells
invariant-cells l = record {
  cells : (tail : List Bool) → l.room.items ++ cell_bytes l.shaper (low_bits (80 - l._done) l.rest ++ tail)
      ≡ l.fn.room.items ++ cell_bytes l.fn.shaper (low_bits 80 l.fn.bits ++ tail);
  len : array_vec_len l.room ≤ array_vec_len l.fn.room + 8 * l._done;
}
