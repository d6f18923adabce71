use Rattle.std.proofs.Common.{◌≡◌}
use Rattle.luma_row.specs.Climb.{Climbs}
use Rattle.luma_row.specs.KeptPlace.{IsInRow}
use Rattle.luma_row.specs.Place.{score}
use Rattle.luma_row.proofs.climb.climb.Given as goal

abbrev pub invariant-loop-turn : goal.invariant-loop-turn
invariant-loop-turn l = Climbs l.row l.step l.turn l.fn.from.place l.place × IsInRow l.place
    × (l.own ≡ score l.row l.place)
