use Rattle.std.proofs.Common.{sym, ◌∙◌}
use Rattle.wave_file.proofs.TakenFormat.{taken_for}
use Rattle.wave_file.proofs.format.format_in.Goals as goal

pub returns-in-None-clause-taken : goal.returns-in-None-clause-taken
returns-in-None-clause-taken c = taken_for c.args.asked c.args.place c.is_pcm.result c.format_of-format.result
    c.requires.asked (sym c.field_fault.ensures ∙ c.in-None.is)
