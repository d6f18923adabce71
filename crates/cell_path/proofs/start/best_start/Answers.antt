use Rattle.std.proofs.Common.{ap, ◌∙◌}
use Rattle.cell_path.specs.declared.four.Four.{Four}
use Rattle.cell_path.specs.StandsFor.{end_at}
use Rattle.cell_path.proofs.StartOfCells.{first_start, started}
use Rattle.cell_path.proofs.start.best_start.Goals as goal

pub returns-clause-starts : goal.returns-clause-starts
returns-clause-starts c = λ levels step steps costs are.
    let ends = c.args.ends.now in
    let p = c.args.place in
    let s = c.args.sign in
    let first = first_start steps p s (end_at ends p s) c.first-same.result step are.within are.long are.are_steps
    (are.are_ends p s c.requires)
    (c.first-same.ensures.numbers ∙ ap (λ (f : Four). f.numbers) c.at.ensures) (c.first-same.ensures.codes step) in
    let one = c.or_shorter-shorter.ensures.next c.args.best levels step steps are costs.shorter first in
    let two = c.or_longer-longer.ensures.next c.args.best levels step steps are costs.longer one in
    started steps p s c.or_jump.result step (c.or_jump.ensures.next ends levels s step steps are costs.jump two)
