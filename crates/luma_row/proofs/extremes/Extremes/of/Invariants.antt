use Rattle.std.proofs.Common.{◌≡◌, ◌≤◌, length, max, min, take}
use Rattle.std.specs.List.{fold}
use Rattle.luma_row.proofs.extremes.Extremes.of.Given as goal

abbrev pub invariant-loop-at : goal.invariant-loop-at
invariant-loop-at l = (l.at ≤ length l.row) × (l.darkest ≡ fold min 255 (take l.at l.row))
    × (l.lightest ≡ fold max 0 (take l.at l.row))
