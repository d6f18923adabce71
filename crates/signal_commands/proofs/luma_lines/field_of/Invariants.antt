use Rattle.std.proofs.Common.{◌≡◌, ◌≤◌, ◌+◌, ◌*◌, ◌∷◌, length, take}
use Rattle.std.specs.List.{flat_map}
use Rattle.arrayvec.specs.ArrayVec.{array_vec_len}
use Rattle.line_file.specs.Grammar.{line_bytes}
use Rattle.vitc_reader.specs.Written.{runs_in}
use Rattle.signal_commands.specs.declared.luma_lines.TheConstants.{LINE_LENGTH}
use Rattle.signal_commands.proofs.luma_lines.field_of.Given as goal

-- the number of lines, and the lines so far
abbrev pub invariant-lines : goal.invariant-lines
invariant-lines l = record {
  within : l.index ≤ length l.lines.items;
  items : l.field.items
      ≡ length l.lines.items ∷ flat_map (λ bits. line_bytes (runs_in LINE_LENGTH bits)) (take l.index l.lines.items);
  len : array_vec_len l.field ≤ 1 + 179 * l.index;
}
