use Rattle.std.proofs.Common.{◌≡◌, ◌+◌, ◌-◌, refl, ap, sym, subst, ◌∙◌, arith}
use Rattle.luma_row.specs.Choice.{IsFirstBest}
use Rattle.luma_row.specs.Climb.{worth, Climbs}
use Rattle.luma_row.specs.KeptPlace.{IsInRow}
use Rattle.luma_row.specs.Place.{score}
use Rattle.luma_row.proofs.MoveByMove.{chosen_in_row, chosen_score, itself, one_move, still}
use Rattle.luma_row.proofs.climb.climb.Goals as goal

pub loop-turn-init : goal.loop-turn-init
loop-turn-init c = (refl, c.requires.place, c.requires.score)

pub best_neighbour-best-requires-clause-place : goal.best_neighbour-best-requires-clause-place
best_neighbour-best-requires-clause-place c = c.loop-turn.invariant.1

pub best_neighbour-best-requires-clause-own : goal.best_neighbour-best-requires-clause-own
best_neighbour-best-requires-clause-own c = c.loop-turn.invariant.2

pub returns-then-number-eq0-clause-climbs : goal.returns-then-number-eq0-clause-climbs
returns-then-number-eq0-clause-climbs c =
    let row = c.args.row.now in
    let best = subst (λ n. IsFirstBest 9 (worth row c.loop-turn.place c.args.step) n) c.if-number-eq0.true
    c.best_neighbour-best.ensures.best in
    let all : c.loop-turn.turn + (6 - c.loop-turn.turn) ≡ 6 = omega (arith, c.loop-turn-test.true) in
    subst (λ n. Climbs row c.args.step n c.args.from.place c.loop-turn.place) all
    (still row c.args.step c.loop-turn.turn (6 - c.loop-turn.turn) c.args.from.place c.loop-turn.place
    c.loop-turn.invariant.0 (itself row c.args.step c.loop-turn.place best))

pub returns-then-number-eq0-clause-place : goal.returns-then-number-eq0-clause-place
returns-then-number-eq0-clause-place c = c.loop-turn.invariant.1

pub returns-then-number-eq0-clause-score : goal.returns-then-number-eq0-clause-score
returns-then-number-eq0-clause-score c = c.loop-turn.invariant.2

pub neighbour-place-requires-clause-place : goal.neighbour-place-requires-clause-place
neighbour-place-requires-clause-place c = c.loop-turn.invariant.1

pub loop-turn-preserved : goal.loop-turn-preserved
loop-turn-preserved c =
    let row = c.args.row.now in
    let number = c.best_neighbour-best.result.number in
    let best = c.best_neighbour-best.ensures in
    let is = c.neighbour-place.ensures.neighbour in
    let chosen = chosen_in_row row c.args.step number c.loop-turn.place c.requires.row best.best
    c.if-number-eq0.false in
    let sum = chosen_score row c.args.step number c.loop-turn.place best.best c.if-number-eq0.false in (
      one_move row c.args.step c.loop-turn.turn c.args.from.place c.loop-turn.place c.neighbour-place.result
          c.loop-turn.invariant.0 (number, best.best, is),
      subst IsInRow (sym is) chosen,
      best.sum_is ∙ (sum ∙ ap (score row) (sym is)),
    )

pub returns-clause-climbs : goal.returns-clause-climbs
returns-clause-climbs c =
    let all : c.loop-turn.turn ≡ 6 = omega (arith, c.loop-turn-test.false, c.loop-turn.auto.turn-end) in
    subst (λ n. Climbs c.args.row.now c.args.step n c.args.from.place c.loop-turn.place) all c.loop-turn.invariant.0

pub returns-clause-place : goal.returns-clause-place
returns-clause-place c = c.loop-turn.invariant.1

pub returns-clause-score : goal.returns-clause-score
returns-clause-score c = c.loop-turn.invariant.2
