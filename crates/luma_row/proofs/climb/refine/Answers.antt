use Rattle.std.proofs.Common.{◌≡◌, ◌*◌, refl, ap, subst, length, arith, ◌∙◌}
use Rattle.luma_row.specs.Climb.{Refines}
use Rattle.luma_row.specs.Width.{grain}
use Rattle.luma_row.proofs.MoveByMove.{half_step, one_step}
use Rattle.luma_row.proofs.climb.refine.Goals as goal

pub loop-turn-init : goal.loop-turn-init
loop-turn-init c =
    let same = c.width_of.ensures.value in
    let is = c.grain-step.ensures.value in
    let most = c.requires.row.1 in
    (refl, c.requires.coarse, ap (λ g. 2 * g) (is ∙ ap grain same), omega (arith, is, same, most), c.score.ensures)

pub climb-at-requires-clause-place : goal.climb-at-requires-clause-place
climb-at-requires-clause-place c = c.loop-turn.invariant.1

pub climb-at-requires-clause-step : goal.climb-at-requires-clause-step
climb-at-requires-clause-step c = c.loop-turn.invariant.3

pub climb-at-requires-clause-score : goal.climb-at-requires-clause-score
climb-at-requires-clause-score c = c.loop-turn.invariant.4

pub loop-turn-preserved : goal.loop-turn-preserved
loop-turn-preserved c =
    let row = c.args.row.now in
    let first = 2 * grain (length row) in
    let i = c.loop-turn.invariant in (
      one_step row first c.loop-turn.turn c.loop-turn.step c.args.coarse c.loop-turn.at.place c.climb-at.result.place
          i.0 i.2 c.climb-at.ensures.climbs,
      c.climb-at.ensures.place,
      half_step first c.loop-turn.turn c.loop-turn.step i.2,
      omega (arith, i.3),
      c.climb-at.ensures.score,
    )

pub returns-clause-refines : goal.returns-clause-refines
returns-clause-refines c =
    let all : c.loop-turn.turn ≡ 8 = omega (arith, c.loop-turn-test.false, c.loop-turn.auto.turn-end) in
    subst (λ n. Refines c.args.row.now (2 * grain (length c.args.row.now)) n c.args.coarse c.loop-turn.at.place) all
    c.loop-turn.invariant.0

pub returns-clause-place : goal.returns-clause-place
returns-clause-place c = c.loop-turn.invariant.1
