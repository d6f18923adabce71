use Rattle.std.proofs.Common.{arith}
use Rattle.signal_commands.proofs.RawOn.{samples_read}
use Rattle.signal_commands.proofs.raw_samples.read_samples.Goals as goal

pub returns : goal.returns
returns c =
    samples_read c.args.bytes.now c.read_i16_into.new.dst (omega (arith, c.requires, c.read_i16_into.auto.dst))
    c.read_i16_into.ensures
