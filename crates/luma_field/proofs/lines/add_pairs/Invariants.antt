use Rattle.std.proofs.Common.{◌≡◌, ◌≤◌, ◌++◌, drop, length, take}
use Rattle.std.specs.List.{flat_map}
use Rattle.luma_field.specs.Field.{line_of_pair, pairs}
use Rattle.luma_field.proofs.lines.add_pairs.Given as goal

abbrev pub invariant-loop-at : goal.invariant-loop-at
invariant-loop-at l = (l.at ≤ length l.rows) × (length l.lines.items ≤ 20)
    × (take 20 (l.lines.items ++ flat_map (line_of_pair l.width) (pairs (drop l.at l.rows)))
    ≡ take 20 (l.fn.lines.items ++ flat_map (line_of_pair l.width) (pairs l.rows)))
