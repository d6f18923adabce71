use Rattle.std.proofs.Common.{[], refl}
use Rattle.signal_commands.proofs.vitc_read.FieldReport.new.Goals as goal

-- nothing was read or written
pub returns-clause-stands : goal.returns-clause-stands
returns-clause-stands c = record {
  answers = [];
  decoder = c.new.ensures.stands;
  told = c.a_decoder_tells_the_file.ensures _ _ _ c.new.ensures.stands;
  are = refl;
  fields = refl;
  agreed = refl;
  conflict = refl;
  nothing = refl;
}
