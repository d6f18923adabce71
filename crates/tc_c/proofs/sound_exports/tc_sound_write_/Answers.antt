use Rattle.std.proofs.Common.{take, subst, ◌∙◌}
use Rattle.code_maker.specs.Sound.{MadeSound}
use Rattle.tc_c.specs.Write.{SoundMakes}
use Rattle.tc_c.proofs.sound_exports.tc_sound_write_.Goals as goal

-- the maker is the one that the handle has
pub returns-clause-goes : goal.returns-clause-goes
returns-clause-goes c =
    let used = take c.write-used.result.0 c.args.ticks.now in
    let made = take c.write-used.result.1 c.write-used.new.samples in
    subst (λ (maker : MadeSound). SoundMakes maker c.write-used.new.self used made)
    (c.behind-handle.view_is ∙ c.maker.ensures.value) c.write-used.ensures.goes
