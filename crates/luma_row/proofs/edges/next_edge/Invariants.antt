use Rattle.std.proofs.Common.{◌≡◌, ℕ, ◌-◌, ◌<◌, ◌≤◌, ◌&&◌, false, length}
use Rattle.std.specs.Prelude.{ltb}
use Rattle.luma_row.specs.Edges.{is_falling, is_light}
use Rattle.luma_row.proofs.edges.next_edge.Given as goal

abbrev pub invariant-loop-pixel : goal.invariant-loop-pixel
invariant-loop-pixel l = (l.pixel < length l.row → l.was_light ≡ (ltb 0 l.pixel && is_light l.row (l.pixel - 1)))
    × ((other : ℕ) → l.from ≤ other → other < l.pixel → is_falling l.row other ≡ false)
