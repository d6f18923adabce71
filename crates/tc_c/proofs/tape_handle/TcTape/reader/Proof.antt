-- `reader` lends on the reader of a tape that lies behind the handle's pointer.
use Rattle.std.proofs.Common.{refl}
use denote.Memory.{lone}
use Rattle.tc_c.specs.Lending.{with_tape}
use Rattle.tc_c.specs.declared.tape_handle.TcTape.{TcTape}
use Rattle.tc_c.specs.contracts.tape_handle.TcTape.{the_type}
use Rattle.tc_c.specs.contracts.tape_handle.TcTape.reader as f
use Rattle.tc_c.specs.contracts.tape_kept.KeptTape as lodger
use Rattle.tc_c.specs.contracts.tape_kept.KeptTape.TheInside as inside
use Rattle.tc_c.proofs.LendsOn.{Handle, lends}
use Rattle.tc_c.proofs.tape_handle.TcTape.reader.Statement.{statement}
use Rattle.tc_c.proofs.tape_handle.TcTape.reader.Code as code

abbrev handle : Handle
handle = record {
  name = the_type.name;
  lodger_name = inside.the_type.name;
  lodger_type = lone (lodger.the_row).mir;
  lodger = lodger.the_row;
  D = TcTape;
  at = λ h. h.at;
  value = λ h. h.value;
  with = with_tape;
  at_stays = λ h w. refl;
  value_is = λ h w. refl;
  coded = the_type.coded;
  exit = the_type.exit;
  shr_at = the_type.shr_at;
}

pub reader_spec : {M : Type 1} → statement M
reader_spec 𝓤 𝓛 𝓜 𝓡 wired = lends handle 𝓛 𝓜 𝓡 f.Key.name (code.unfolded 𝓤 𝓛.H 𝓜 𝓡 wired)
