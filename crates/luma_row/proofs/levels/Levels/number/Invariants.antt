use Rattle.std.proofs.Common.{◌≡◌, ◌^◌, ◌<◌, ◌≤◌}
use Rattle.luma_row.specs.Levels.{last_bits}
use Rattle.luma_row.proofs.levels.Levels.number.Given as goal

abbrev pub invariant-loop-count : goal.invariant-loop-count
invariant-loop-count l = (l.count ≤ 90) × (l.bits ≡ last_bits l.count l.self) × (l.bits < 2 ^ l.count)
