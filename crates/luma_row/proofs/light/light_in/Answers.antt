use Rattle.std.proofs.Common.{rules}
use Rattle.luma_row.proofs.PixelByPixel.{light_to_part}
use Rattle.luma_row.proofs.light.light_in.Goals as goal

pub returns-clause-value : goal.returns-clause-value
returns-clause-value c =
    light_to_part c.args.row.now c.args.sums.now c.args.pixel c.args.part c.from.result c.requires.pixel c.requires.part
    c.requires.sums (search rules)
