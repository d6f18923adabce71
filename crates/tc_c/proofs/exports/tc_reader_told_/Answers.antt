use Rattle.std.proofs.Common.{ap, subst, ◌∙◌}
use Rattle.sound_reader.specs.Sound.{AllElseIsLater, SoundState}
use Rattle.tc_c.specs.Lending.{with_reader}
use Rattle.tc_c.proofs.exports.tc_reader_told_.Goals as goal

-- it is what the reader says
pub returns-clause-later : goal.returns-clause-later
returns-clause-later c = subst (λ (reader : SoundState). AllElseIsLater reader c.told_until-2.result)
    (c.told_until.view_is ∙ c.reader.ensures.value) c.told_until-2.ensures.later

-- the reader was only read
pub returns-clause-same : goal.returns-clause-same
returns-clause-same c = ap (λ (reader : SoundState). with_reader c.args.handle.now reader) c.reader.ensures.value
