-- `writer` lends on a writer of MIDI Time Code that lies behind the handle's pointer.
use Rattle.std.proofs.Common.{refl}
use denote.Memory.{lone}
use Rattle.tc_c.specs.Lending.{with_mtc_writer}
use Rattle.tc_c.specs.declared.mtc_writer_handle.TcMtcWriter.{TcMtcWriter}
use Rattle.tc_c.specs.contracts.mtc_writer_handle.TcMtcWriter.{the_type}
use Rattle.tc_c.specs.contracts.mtc_writer_handle.TcMtcWriter.writer as f
use Rattle.tc_c.specs.contracts.mtc_writer_kept.KeptMtcWriter as lodger
use Rattle.tc_c.specs.contracts.mtc_writer_kept.KeptMtcWriter.TheInside as inside
use Rattle.tc_c.proofs.LendsOn.{Handle, lends}
use Rattle.tc_c.proofs.mtc_writer_handle.TcMtcWriter.writer.Statement.{statement}
use Rattle.tc_c.proofs.mtc_writer_handle.TcMtcWriter.writer.Code as code

abbrev handle : Handle
handle = record {
  name = the_type.name;
  lodger_name = inside.the_type.name;
  lodger_type = lone (lodger.the_row).mir;
  lodger = lodger.the_row;
  D = TcMtcWriter;
  at = λ h. h.at;
  value = λ h. h.value;
  with = with_mtc_writer;
  at_stays = λ h w. refl;
  value_is = λ h w. refl;
  coded = the_type.coded;
  exit = the_type.exit;
  shr_at = the_type.shr_at;
}

pub writer_spec : {M : Type 1} → statement M
writer_spec 𝓤 𝓛 𝓜 𝓡 wired = lends handle 𝓛 𝓜 𝓡 f.Key.name (code.unfolded 𝓤 𝓛.H 𝓜 𝓡 wired)
