use Rattle.std.proofs.Common.{◌^◌}
use Rattle.luma_row.specs.Coarse.{fall_at}
use Rattle.luma_row.proofs.Filled.{nothing_filled}
use Rattle.luma_row.proofs.coarse.fall_along.Goals as goal

pub falls_near-requires-clause-falls : goal.falls_near-requires-clause-falls
falls_near-requires-clause-falls c = nothing_filled (fall_at c.args.row.now) 4096 (2 ^ 26) c.args.falls.now c.told-falls
