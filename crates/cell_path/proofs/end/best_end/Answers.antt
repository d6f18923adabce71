use Rattle.std.proofs.Common.{ap, ◌∙◌}
use Rattle.cell_path.specs.declared.cell.Bit.TheVariants.{Zero, One}
use Rattle.cell_path.specs.Four.{at_step}
use Rattle.cell_path.specs.Path.{sound_in}
use Rattle.cell_path.specs.StandsFor.{steps_at}
use Rattle.cell_path.proofs.EndOfSteps.{found_end}
use Rattle.cell_path.proofs.end.best_end.Goals as goal

pub returns-clause-ends : goal.returns-clause-ends
returns-clause-ends c = λ step steps within long are sums rows.
    let S = steps_at step steps in
    let n = c.length_at-length.result in
    let first = ap (λ l. at_step l step) c.first.ensures.numbers in
    found_end steps c.args.rows.now n c.args.place c.args.sign step c.behind-flat.result c.behind-turned.result
    c.or.result within long are c.requires c.length_at-length.ensures.value rows
    (λ y y_is. c.behind-flat.ensures step (sound_in Zero n S) y within (c.sound-zero.ensures step steps within sums)
    y_is)
    (λ y y_is. c.behind-turned.ensures step (sound_in One n S) y within (c.sound-one.ensures step steps within sums)
    y_is)
    (λ x y x_is y_is near below. let r = c.or.ensures.stays step x y within (first ∙ x_is) y_is near below in
    (r.0, r.1 ∙ c.first.ensures.codes step))
    (λ x y x_is y_is near above. c.or.ensures.comes step x y within (first ∙ x_is) y_is near above)
