use Rattle.std.specs.Option.{option_map}
use Rattle.std.proofs.Common.{ap, refl}
use Rattle.tc_command.specs.declared.input_fault.InputFault.TheVariants.{Sound}
use Rattle.signal_commands.proofs.sound_file.SoundFileContainer.finish.Goals as goal

-- the file may end here
pub returns-in-Ok-clause-ends : goal.returns-in-Ok-clause-ends
returns-in-Ok-clause-ends c = λ bytes holds.
    (ap (option_map Sound) (c.in-Ok.ensures.ok bytes holds.samples holds.decoder), refl)

-- it may not
pub returns-in-Err-clause-refuses : goal.returns-in-Err-clause-refuses
returns-in-Err-clause-refuses c = λ bytes holds.
    ap (option_map Sound) (c.in-Err.ensures.err bytes holds.samples holds.decoder)
