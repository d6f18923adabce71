use Rattle.std.proofs.Common.{◌-◌, ◌*◌, ◌≤◌, ◌-ℤ◌, pos, arith, refl}
use Rattle.cell_path.specs.declared.cell.Way.TheVariants.{Jump}
use Rattle.cell_path.specs.declared.lengths.TheConstants.{JUMP, LENGTHS}
use Rattle.cell_path.specs.Lengths.{length_in}
use Rattle.cell_path.specs.Path.{level_at}
use Rattle.cell_path.specs.StandsFor.{steps_at}
use Rattle.cell_path.proofs.BestBeginning.{jump_best}
use Rattle.cell_path.proofs.BestEnd.{bit_at}
use Rattle.cell_path.proofs.LengthsOfCells.{length_bounds}
use Rattle.cell_path.proofs.LowScores.{steps_before}
use Rattle.cell_path.proofs.StartOfCells.{behind, best_is_end, level_kept, or_way, some_step}
use Rattle.cell_path.proofs.start.or_jump.Goals as goal

pub returns-clause-next : goal.returns-clause-next
returns-clause-next c = λ ends levels sign step steps are cost_is so_far.
    let S = steps_at step steps in
    let p = c.args.place in
    let best = are.is_best in
    let here = are.are_ends p sign c.requires.place in
    let t = JUMP * length_in LENGTHS p in
    let most = (length_bounds p c.requires.place).1 in
    let few : t ≤ 288 = omega (arith, most) in
    let fee = cost_is step (level_at S) are.within (level_kept levels steps step are.are_steps are.level) in
    let new = best.number -ℤ pos (t * level_at S) in
    let is = c.minus.ensures step best.number (pos (t * level_at S)) are.within best.kept fee in
    let way = jump_best LENGTHS S p best.place sign best.sign best.number
    (some_step steps step are.within are.long) best.is in
    or_way steps p sign c.args.start c.minus.result 3 step c.or.result Jump new here.number here.bit
    are.are_steps here.is refl
    (behind S best.place best.sign best.number (bit_at best.is.path) t (best_is_end S best.place best.sign best.number
    best.is) (steps_before (3 - step) steps are.are_steps) few) is way
    (λ a b. c.or.ensures.stays step a b are.within) (λ a b. c.or.ensures.comes step a b are.within) so_far
