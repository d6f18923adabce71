use Rattle.std.proofs.Common.{rules, ◌≡◌, length, arith}
use Rattle.luma_field.specs.Field.{line_of_row}
use Rattle.luma_field.proofs.FirstTwenty.{full_stays, none_comes, one_more}
use Rattle.luma_field.proofs.lines.add_rows.Goals as goal

pub returns-then-is_full : goal.returns-then-is_full
returns-then-is_full c =
    let items = c.args.lines.now.items in
    let full : length items ≡ 20 = search rules in
    full_stays items _ full

pub loop-at-init : goal.loop-at-init
loop-at-init c = (omega arith, none_comes c.args.lines.now.items c.is_full.ensures.fits)

pub loop-at-preserved : goal.loop-at-preserved
loop-at-preserved c = (
  omega (arith, c.loop-at-test.true),
  one_more line_of_row c.args.rows.now c.loop-at.at _ c.args.lines.now.items c.loop-at.lines.items c.add.new.lines.items
      c.loop-at-test.true c.loop-at.invariant.1 c.add.ensures,
)
