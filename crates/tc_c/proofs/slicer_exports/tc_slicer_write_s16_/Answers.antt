use Rattle.std.proofs.Common.{take, subst, ◌∙◌}
use Rattle.sound_reader.specs.Slicer.{Gives, SlicerState}
use Rattle.tc_c.proofs.slicer_exports.tc_slicer_write_s16_.Goals as goal

-- the slicer is the one that the handle has
pub returns-clause-goes : goal.returns-clause-goes
returns-clause-goes c =
    let used = take c.slice.result.used c.args.samples.now in
    let made = take c.slice.result.made c.slice.new.ticks in
    subst (λ (slicer : SlicerState). Gives slicer c.slice.new.slicer used made)
    (c.behind-handle.view_is ∙ c.slicer.ensures.value) c.slice.ensures.goes
