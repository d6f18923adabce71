use Rattle.std.proofs.Common.{refl}
use Rattle.signal_commands.proofs.LumaOn.{row_cut_end}
use Rattle.signal_commands.proofs.luma_vitc.ReadPixelsEngine.cut_off.Goals as goal

-- inside a field
pub returns : goal.returns
returns c = λ cut front written stands.
    let laws = c.joined_parts_are_taken_apart.ensures in
    (_, refl, row_cut_end laws.apart laws.long c.args.self.now front written c.args.bytes.now cut stands)
