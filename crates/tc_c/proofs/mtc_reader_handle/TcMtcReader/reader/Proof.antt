-- `reader` lends on a reader of MIDI Time Code that lies behind the handle's pointer.
use Rattle.std.proofs.Common.{refl}
use denote.Memory.{lone}
use Rattle.tc_c.specs.Lending.{with_mtc_reader}
use Rattle.tc_c.specs.declared.mtc_reader_handle.TcMtcReader.{TcMtcReader}
use Rattle.tc_c.specs.contracts.mtc_reader_handle.TcMtcReader.{the_type}
use Rattle.tc_c.specs.contracts.mtc_reader_handle.TcMtcReader.reader as f
use Rattle.tc_c.specs.contracts.mtc_reader_kept.KeptMtcReader as lodger
use Rattle.tc_c.specs.contracts.mtc_reader_kept.KeptMtcReader.TheInside as inside
use Rattle.tc_c.proofs.LendsOn.{Handle, lends}
use Rattle.tc_c.proofs.mtc_reader_handle.TcMtcReader.reader.Statement.{statement}
use Rattle.tc_c.proofs.mtc_reader_handle.TcMtcReader.reader.Code as code

abbrev handle : Handle
handle = record {
  name = the_type.name;
  lodger_name = inside.the_type.name;
  lodger_type = lone (lodger.the_row).mir;
  lodger = lodger.the_row;
  D = TcMtcReader;
  at = λ h. h.at;
  value = λ h. h.value;
  with = with_mtc_reader;
  at_stays = λ h w. refl;
  value_is = λ h w. refl;
  coded = the_type.coded;
  exit = the_type.exit;
  shr_at = the_type.shr_at;
}

pub reader_spec : {M : Type 1} → statement M
reader_spec 𝓤 𝓛 𝓜 𝓡 wired = lends handle 𝓛 𝓜 𝓡 f.Key.name (code.unfolded 𝓤 𝓛.H 𝓜 𝓡 wired)
