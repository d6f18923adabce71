use Rattle.std.proofs.Common.{rules, ◌≡◌, length, refl, arith}
use Rattle.luma_field.specs.Field.{line_of_pair, line_of_two}
use Rattle.luma_field.proofs.FirstTwenty.{few, full_stays, no_pairs, one_more_first}
use Rattle.luma_field.proofs.lines.add_pairs.Goals as goal

pub returns-then-is_full : goal.returns-then-is_full
returns-then-is_full c =
    let items = c.args.lines.now.items in
    let full : length items ≡ 20 = search rules in
    full_stays items _ full

pub loop-at-init : goal.loop-at-init
loop-at-init c = (omega arith, c.is_full.ensures.fits, refl)

pub loop-at-preserved : goal.loop-at-preserved
loop-at-preserved c =
    let rows = c.args.rows.now in
    let at = c.loop-at.at in
    let lines = c.loop-at.lines.items in
    let new = c.add_first.new.lines.items in
    let width = c.args.width in (
      omega (arith, c.loop-at-test.true),
      few new _ c.add_first.ensures,
      one_more_first (line_of_two width) rows at _ lines new _ c.loop-at-test.true c.loop-at.invariant.2
          c.add_first.ensures,
    )

pub returns : goal.returns
returns c = no_pairs (line_of_pair c.args.width) c.args.rows.now c.loop-at.at c.loop-at.lines.items _
    (omega (arith, c.loop-at-test.false)) c.loop-at.invariant.1 c.loop-at.invariant.2
