use Rattle.std.proofs.Common.{rules, arith}
use Rattle.luma_row.proofs.PixelByPixel.{light_in, light_behind}
use Rattle.luma_row.proofs.light.light.Goals as goal

pub returns-then-pixel-row-clause-value : goal.returns-then-pixel-row-clause-value
returns-then-pixel-row-clause-value c =
    light_in c.args.row.now c.args.sums.now c.args.place c.from.result c.if-pixel-row.true c.requires.sums
    (search rules)

pub returns-else-pixel-row-clause-value : goal.returns-else-pixel-row-clause-value
returns-else-pixel-row-clause-value c =
    light_behind c.args.row.now c.args.sums.now c.args.place (omega arith) c.requires.sums
