use Rattle.std.specs.Option.{option_map}
use Rattle.std.proofs.Common.{ap, refl}
use Rattle.tc_command.specs.declared.input_fault.InputFault.TheVariants.{Sound}
use Rattle.signal_commands.proofs.sound_file.SoundFileContainer.cut_off.Goals as goal

-- inside a piece
pub returns : goal.returns
returns c = λ cut front holds.
    (_, refl, ap (option_map Sound) (c.cut_off.ensures cut front holds.samples holds.decoder))
