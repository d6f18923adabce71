use Rattle.std.proofs.Common.{◌≡◌, ◌≤◌, ◌++◌, length, take}
use Rattle.std.specs.List.{flat_map}
use Rattle.luma_field.specs.Field.{line_of_two}
use Rattle.luma_field.proofs.lines.add_first.Given as goal

abbrev pub invariant-loop-at : goal.invariant-loop-at
invariant-loop-at l = (l.at ≤ length l.behind)
    × (l.lines.items ≡ take 20 (l.fn.lines.items ++ flat_map (line_of_two l.width l.first) (take l.at l.behind)))
