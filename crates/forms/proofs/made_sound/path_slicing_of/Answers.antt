use Rattle.std.proofs.Common.{◌≡◌, ◌∙◌, Some, sym, ap, ap₂, rules}
use Rattle.tc_job.specs.PathGrid.{grid_for, step_ticks}
use Rattle.forms.specs.Held.{number_or, system_at}
use Rattle.forms.proofs.SoundInRange.{path_valid}
use Rattle.forms.proofs.made_sound.path_slicing_of.Goals as goal

pub new-requires : goal.new-requires
new-requires c =
    let all = c.args.values.now in
    let grid_is : grid_for (system_at all 0) (number_or all 1 0) ≡ Some c.in-Some.grid =
    sym (c.grid_for.ensures.value ∙ ap₂ grid_for c.system_at-system.ensures c.number_or-rate.ensures) ∙ c.in-Some.is in
    let ticks_are : step_ticks (number_or all 3 0) c.in-Some.grid ≡ Some c.in-Some-step_ticks.ticks =
    sym (c.step_ticks.ensures.value ∙ ap (λ n. step_ticks n c.in-Some.grid) c.number_or-fineness.ensures)
    ∙ c.in-Some-step_ticks.is in
    rw (c.system_at-system.ensures, c.number_or-rate.ensures, c.number_or.ensures, c.number_or-fineness.ensures)
    (path_valid all c.in-Some.grid c.in-Some-step_ticks.ticks c.requires grid_is (search rules) ticks_are
    (search rules) (search rules))
