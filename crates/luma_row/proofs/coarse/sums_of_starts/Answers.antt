use Rattle.std.proofs.Common.{◌-◌, ap, ap₂, length, ◌∙◌}
use Rattle.luma_row.specs.Coarse.{pixel_of}
use Rattle.luma_row.specs.Width.{start, starts}
use Rattle.luma_row.proofs.Cellwise.{sums_of_all}
use Rattle.luma_row.proofs.Within.{last_within}
use Rattle.luma_row.proofs.coarse.sums_of_starts.Goals as goal

pub sums_along-requires-clause-within : goal.sums_along-requires-clause-within
sums_along-requires-clause-within c =
    let wide = c.width_of-width.ensures.value in
    let count = c.starts.ensures ∙ ap (λ w. starts w c.args.apart) wide in
    let last = c.start_pixel-last.ensures ∙ ap₂ (λ w n. pixel_of (start w (n - 1))) wide count in
    last_within (length c.args.row.now) c.args.apart c.start_pixel-last.result c.requires.row c.requires.narrow
    c.requires.wide last

pub returns : goal.returns
returns c =
    let wide = c.width_of-width.ensures.value in
    let count = c.starts.ensures ∙ ap (λ w. starts w c.args.apart) wide in
    let last = c.start_pixel-last.ensures ∙ ap₂ (λ w n. pixel_of (start w (n - 1))) wide count in
    sums_of_all c.args.row.now c.sums_along.new.sums c.args.apart c.start_pixel-last.result c.requires.row
    c.requires.narrow c.requires.wide last c.sums_along.ensures
