use Rattle.std.proofs.Common.{◌≡◌, ◌≤◌}
use Rattle.luma_row.specs.Choice.{any_of}
use Rattle.luma_row.specs.Levels.{is_opposite}
use Rattle.luma_row.proofs.levels.Levels.contradicts.Given as goal

abbrev pub invariant-loop-bit : goal.invariant-loop-bit
invariant-loop-bit l = (l.bit ≤ 90) × (l.found ≡ any_of l.bit (is_opposite l.self l.other))
