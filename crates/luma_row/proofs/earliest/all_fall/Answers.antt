use Rattle.std.proofs.Common.{rules, ◌≡◌, true, false, ◌&&◌, ap₂, sym, ◌∙◌, arith}
use Rattle.luma_row.specs.Earliest.{falls_enough}
use Rattle.luma_row.proofs.BitByBit.{all_of_more, all_of_none, not_all}
use Rattle.luma_row.proofs.earliest.all_fall.Goals as goal

pub loop-pair-init : goal.loop-pair-init
loop-pair-init c = (omega arith, all_of_none (falls_enough c.args.row.now c.args.sum c.args.place))

pub returns-then-not-falls_enough : goal.returns-then-not-falls_enough
returns-then-not-falls_enough c =
    let isnt : c.falls_enough.result ≡ false = search rules in
    sym (not_all 9 (falls_enough c.args.row.now c.args.sum c.args.place) c.loop-pair.pair
    (omega (arith, c.loop-pair-test.true)) (sym c.falls_enough.ensures ∙ isnt))

pub loop-pair-preserved : goal.loop-pair-preserved
loop-pair-preserved c =
    let is : c.falls_enough.result ≡ true = search rules in (
      omega (arith, c.loop-pair-test.true),
      all_of_more c.loop-pair.pair (falls_enough c.args.row.now c.args.sum c.args.place)
          ∙ ap₂ ◌&&◌ c.loop-pair.invariant.1 (sym c.falls_enough.ensures ∙ is),
    )
