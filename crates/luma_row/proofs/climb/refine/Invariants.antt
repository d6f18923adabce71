use Rattle.std.proofs.Common.{◌≡◌, ◌*◌, ◌^◌, ◌<◌, length}
use Rattle.luma_row.specs.Climb.{halved, Refines}
use Rattle.luma_row.specs.KeptPlace.{IsInRow}
use Rattle.luma_row.specs.Place.{score}
use Rattle.luma_row.specs.Width.{grain}
use Rattle.luma_row.proofs.climb.refine.Given as goal

abbrev pub invariant-loop-turn : goal.invariant-loop-turn
invariant-loop-turn l = Refines l.row (2 * grain (length l.row)) l.turn l.fn.coarse l.at.place × IsInRow l.at.place
    × (l.step ≡ halved (2 * grain (length l.row)) l.turn) × (l.step < 2 ^ 10)
    × (l.at.score ≡ score l.row l.at.place)
