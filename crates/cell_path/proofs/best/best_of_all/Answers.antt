use Rattle.std.proofs.Common.{◌≡◌, ◌+◌, ◌*◌, arith, ap, ◌∙◌}
use Rattle.cell_path.specs.declared.cell.Sign.TheVariants.{Plus, Minus}
use Rattle.cell_path.specs.declared.four.Four.{Four}
use Rattle.cell_path.specs.Trying.{end_number}
use Rattle.cell_path.proofs.BestOfAll.{all_ends, counted, first_best, or_end}
use Rattle.cell_path.proofs.best.best_of_all.Goals as goal

pub loop-place-init : goal.loop-place-init
loop-place-init c =
    let ends = c.args.ends.now in
    let e = c.or-best.ensures in
    let first = first_best ends c.first.result (c.first.ensures.numbers ∙ ap (λ (f : Four). f.numbers) c.at.ensures)
    c.first.ensures.codes in
    counted ends (end_number 0 Minus + 1) 2 c.or-best.result (omega arith)
    (or_end ends 0 Minus c.first.result _ 1 c.or-best.result (omega arith) (omega arith)
    (ap (λ (f : Four). f.numbers) c.at-2.ensures) e.stays e.comes e.either
    (counted ends 1 (end_number 0 Minus) c.first.result (omega arith) first))

pub loop-place-preserved : goal.loop-place-preserved
loop-place-preserved c =
    let ends = c.args.ends.now in
    let p = c.loop-place.place in
    let one = c.or.ensures in
    let two = c.or-best-in-loop-place.ensures in
    let within = c.loop-place-test.true in
    let plus = or_end ends p Plus c.loop-place.best _ (2 * p) c.or.result within (omega arith)
    (ap (λ (f : Four). f.numbers) c.at-in-loop-place.ensures) one.stays one.comes one.either
    (counted ends (2 * p) (end_number p Plus) c.loop-place.best (omega arith) c.loop-place.invariant) in
    let minus = or_end ends p Minus c.or.result _ (2 * p + 1) c.or-best-in-loop-place.result within (omega arith)
    (ap (λ (f : Four). f.numbers) c.at-in-loop-place-2.ensures) two.stays two.comes two.either
    (counted ends (end_number p Plus + 1) (end_number p Minus) c.or.result (omega arith) plus) in
    counted ends (end_number p Minus + 1) (2 * (p + 1)) c.or-best-in-loop-place.result (omega arith) minus

pub returns-clause-best : goal.returns-clause-best
returns-clause-best c =
    let all : 2 * c.loop-place.place ≡ 90 = omega (arith, c.loop-place-test.false, c.loop-place.auto.place-end) in
    all_ends c.args.ends.now c.loop-place.best
    (counted c.args.ends.now (2 * c.loop-place.place) 90 c.loop-place.best all c.loop-place.invariant)
