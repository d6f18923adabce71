-- `slicer` lends on a slicer of sound that lies behind the handle's pointer.
use Rattle.std.proofs.Common.{refl}
use denote.Memory.{lone}
use Rattle.tc_c.specs.Lending.{with_slicer}
use Rattle.tc_c.specs.declared.slicer_handle.TcSlicer.{TcSlicer}
use Rattle.tc_c.specs.contracts.slicer_handle.TcSlicer.{the_type}
use Rattle.tc_c.specs.contracts.slicer_handle.TcSlicer.slicer as f
use Rattle.tc_c.specs.contracts.slicer_kept.KeptSlicer as lodger
use Rattle.tc_c.specs.contracts.slicer_kept.KeptSlicer.TheInside as inside
use Rattle.tc_c.proofs.LendsOn.{Handle, lends}
use Rattle.tc_c.proofs.slicer_handle.TcSlicer.slicer.Statement.{statement}
use Rattle.tc_c.proofs.slicer_handle.TcSlicer.slicer.Code as code

abbrev handle : Handle
handle = record {
  name = the_type.name;
  lodger_name = inside.the_type.name;
  lodger_type = lone (lodger.the_row).mir;
  lodger = lodger.the_row;
  D = TcSlicer;
  at = λ h. h.at;
  value = λ h. h.value;
  with = with_slicer;
  at_stays = λ h w. refl;
  value_is = λ h w. refl;
  coded = the_type.coded;
  exit = the_type.exit;
  shr_at = the_type.shr_at;
}

pub slicer_spec : {M : Type 1} → statement M
slicer_spec 𝓤 𝓛 𝓜 𝓡 wired = lends handle 𝓛 𝓜 𝓡 f.Key.name (code.unfolded 𝓤 𝓛.H 𝓜 𝓡 wired)
