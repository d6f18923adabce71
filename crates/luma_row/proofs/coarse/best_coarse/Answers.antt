use Rattle.std.proofs.Common.{ap, length, ◌∙◌, arith}
use Rattle.luma_row.specs.Width.{start}
use Rattle.luma_row.proofs.Within.{few_starts, start_early}
use Rattle.luma_row.proofs.coarse.best_coarse.Goals as goal

pub start-first-requires-clause-number : goal.start-first-requires-clause-number
start-first-requires-clause-number c =
    let same = c.width_of-width.ensures.value in
    few_starts (length c.args.row.now) c.distance-apart.result c.best_start.result.number c.requires.row
    (omega (arith, same, c.distance-apart.ensures.narrow)) c.best_start.ensures.best.below

pub returns-clause-place : goal.returns-clause-place
returns-clause-place c =
    let same = c.width_of-width.ensures.value in
    let narrow = c.distance-apart.ensures.narrow in
    let wide = c.distance-apart.ensures.wide in
    let early = start_early (length c.args.row.now) c.distance-apart.result c.best_start.result.number c.requires.row
    (omega (arith, same, narrow)) c.best_start.ensures.best.below in
    let is = c.start-first.ensures ∙ ap (λ w. start w c.best_start.result.number) same in
    let least = c.requires.row.0 in
    let most = c.requires.row.1 in
    record {
      order = omega (arith, same, narrow, least);
      last = omega (arith, same, wide, early, is, most);
    }
