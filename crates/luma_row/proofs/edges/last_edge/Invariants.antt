use Rattle.std.proofs.Common.{ℕ, ◌-◌, ◌<◌, ◌≤◌, length}
use Rattle.luma_row.specs.Edges.{LeadsTo}
use Rattle.luma_row.proofs.edges.last_edge.Given as goal

abbrev pub invariant-loop-edge : goal.invariant-loop-edge
invariant-loop-edge l = (1 ≤ l.edge) × (l.edge ≤ 9) × (l.first ≤ l.last) × (l.last < length l.row)
    × ((end : ℕ) → LeadsTo l.row 8 l.first end → LeadsTo l.row (9 - l.edge) l.last end)
    × ((end : ℕ) → LeadsTo l.row (9 - l.edge) l.last end → LeadsTo l.row 8 l.first end)
