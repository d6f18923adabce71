use Rattle.std.proofs.Common.{◌≡◌, ◌*◌, ◌^◌, ◌≤◌}
use Rattle.luma_row.specs.Cells.{dark_of, light_of}
use Rattle.luma_row.specs.Choice.{sum_of}
use Rattle.luma_row.proofs.cells.swing_of.Given as goal

abbrev pub invariant-loop-pair : goal.invariant-loop-pair
invariant-loop-pair l = (l.pair ≤ 9) × (l.light ≡ sum_of l.pair (light_of l.cells)) × (l.light ≤ l.pair * 2 ^ 24)
    × (l.dark ≡ sum_of l.pair (dark_of l.cells)) × (l.dark ≤ l.pair * 2 ^ 24)
