use Rattle.std.proofs.Common.{refl}
use Rattle.signal_commands.proofs.FieldsGrow.{ends_badly}
use Rattle.signal_commands.proofs.vitc_read.FieldReportEngine.cut_off.Goals as goal

-- inside a header or a field
pub returns : goal.returns
returns c = λ cut front written stands. (_, refl, ends_badly (c.cut_off.ensures cut front stands.answers stands.decoder))
