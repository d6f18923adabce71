use Rattle.std.proofs.Common.{◌≡◌, ◌≤◌}
use Rattle.luma_row.specs.Choice.{all_of}
use Rattle.luma_row.specs.Levels.{is_clear}
use Rattle.luma_row.proofs.levels.Levels.are_clear.Given as goal

abbrev pub invariant-loop-bit : goal.invariant-loop-bit
invariant-loop-bit l = (l.bit ≤ 90) × (l.clear ≡ all_of l.bit (is_clear l.self))
