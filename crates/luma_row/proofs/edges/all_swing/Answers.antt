use Rattle.std.proofs.Common.{rules, ◌≡◌, true, false, ◌&&◌, ap₂, sym, ◌∙◌, arith}
use Rattle.luma_row.specs.Edges.{swings_enough}
use Rattle.luma_row.proofs.BitByBit.{all_of_more, all_of_none, not_all}
use Rattle.luma_row.proofs.edges.all_swing.Goals as goal

pub loop-pair-init : goal.loop-pair-init
loop-pair-init c = (omega arith, all_of_none (swings_enough c.args.row.now c.args.place))

pub returns-then-not-swings_enough : goal.returns-then-not-swings_enough
returns-then-not-swings_enough c =
    let isnt : c.swings_enough.result ≡ false = search rules in
    sym (not_all 9 (swings_enough c.args.row.now c.args.place) c.loop-pair.pair
    (omega (arith, c.loop-pair-test.true)) (sym c.swings_enough.ensures ∙ isnt))

pub loop-pair-preserved : goal.loop-pair-preserved
loop-pair-preserved c =
    let is : c.swings_enough.result ≡ true = search rules in (
      omega (arith, c.loop-pair-test.true),
      all_of_more c.loop-pair.pair (swings_enough c.args.row.now c.args.place)
          ∙ ap₂ ◌&&◌ c.loop-pair.invariant.1 (sym c.swings_enough.ensures ∙ is),
    )
