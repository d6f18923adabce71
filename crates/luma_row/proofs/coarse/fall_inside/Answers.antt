use Rattle.std.proofs.Common.{ap, ◌+◌, ◌-◌, ◌*◌, ◌∙◌}
use Rattle.luma_row.specs.Light.{fall}
use Rattle.luma_row.proofs.Cellwise.{fall_of_parts}
use Rattle.luma_row.proofs.coarse.fall_inside.Goals as goal

pub returns-clause-value : goal.returns-clause-value
returns-clause-value c =
    let pixel = c.args.pixel in
    fall_of_parts c.args.row.now c.args.reach pixel c.light_in-before.result c.light_in.result c.light_in-behind.result
    c.requires.left c.light_in.ensures.value c.light_in-before.ensures.value c.light_in-behind.ensures.value
    ∙ ap (λ r. fall c.args.row.now (16 * pixel - r) (16 * pixel) (16 * pixel + r)) c.requires.reach
