use Rattle.std.proofs.Common.{◌-◌, ◌*◌, ◌≤◌, ◌-ℤ◌, pos, arith, ap, refl, ◌∙◌}
use Rattle.cell_path.specs.declared.cell.Way.TheVariants.{Shorter}
use Rattle.cell_path.specs.declared.four.Four.{Four}
use Rattle.cell_path.specs.declared.lengths.TheConstants.{LENGTHS}
use Rattle.cell_path.specs.Four.{at_step}
use Rattle.cell_path.specs.Lengths.{length_in}
use Rattle.cell_path.specs.Path.{level_at}
use Rattle.cell_path.specs.StandsFor.{steps_at}
use Rattle.cell_path.proofs.BestBeginning.{shorter_best}
use Rattle.cell_path.proofs.LengthsOfCells.{length_bounds}
use Rattle.cell_path.proofs.LowScores.{steps_before}
use Rattle.cell_path.proofs.StartOfCells.{behind, level_kept, or_way, some_step}
use Rattle.cell_path.proofs.start.or_shorter.Goals as goal

pub returns-clause-next : goal.returns-clause-next
returns-clause-next c = λ best levels step steps are cost_is so_far.
    let S = steps_at step steps in
    let p = c.args.place in
    let n = p - 1 in
    let s = c.args.sign in
    let end = are.are_ends n s (omega (arith, c.requires.place)) in
    let here = are.are_ends p s c.requires.place in
    let t = length_in LENGTHS p - length_in LENGTHS n in
    let most = (length_bounds p c.requires.place).1 in
    let few : t ≤ 288 = omega (arith, most) in
    let fee = cost_is (omega (arith, c.if-place-eq0.false)) step (level_at S) are.within
    (level_kept levels steps step are.are_steps are.level) in
    let new = end.number -ℤ pos (t * level_at S) in
    let is = c.minus-number.ensures step end.number (pos (t * level_at S)) are.within
    (ap (λ (f : Four). at_step f.numbers step) c.at.ensures ∙ end.kept) fee in
    let way = shorter_best LENGTHS S p n s end.number end.bit (omega (arith, c.if-place-eq0.false))
    (some_step steps step are.within are.long) end.is in
    or_way steps p s c.args.start c.minus-number.result 1 step c.or.result Shorter new here.number here.bit
    are.are_steps here.is refl
    (behind S n s end.number end.bit t end.is (steps_before (3 - step) steps are.are_steps) few) is way
    (λ a b. c.or.ensures.stays step a b are.within) (λ a b. c.or.ensures.comes step a b are.within) so_far
