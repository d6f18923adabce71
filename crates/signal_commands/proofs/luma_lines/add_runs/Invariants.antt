use Rattle.std.proofs.Common.{◌≡◌, ◌+◌, ◌*◌, ◌++◌, drop}
use Rattle.std.specs.List.{flat_map}
use Rattle.arrayvec.specs.ArrayVec.{array_vec_len}
use Rattle.byteorder.specs.Endian.{big_bytes}
use Rattle.signal_commands.proofs.luma_lines.add_runs.Given as goal

-- what was written, and the runs that are left, are the whole
abbrev pub invariant-runs : goal.invariant-runs
invariant-runs l = record {
  items : l.field.items ++ flat_map (big_bytes 2) (drop l.index l.fn.runs)
      ≡ l.fn.field.items ++ flat_map (big_bytes 2) l.fn.runs;
  len : array_vec_len l.field ≡ array_vec_len l.fn.field + 2 * l.index;
}
