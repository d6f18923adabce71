-- `wheel` lends on the flywheel that lies behind the handle's pointer.
use Rattle.std.proofs.Common.{refl}
use denote.Memory.{lone}
use Rattle.tc_c.specs.Lending.{with_wheel}
use Rattle.tc_c.specs.declared.wheel_handle.TcWheel.{TcWheel}
use Rattle.tc_c.specs.contracts.wheel_handle.TcWheel.{the_type}
use Rattle.tc_c.specs.contracts.wheel_handle.TcWheel.wheel as f
use Rattle.tc_c.specs.contracts.wheel_kept.KeptWheel as lodger
use Rattle.tc_c.specs.contracts.wheel_kept.KeptWheel.TheInside as inside
use Rattle.tc_c.proofs.LendsOn.{Handle, lends}
use Rattle.tc_c.proofs.wheel_handle.TcWheel.wheel.Statement.{statement}
use Rattle.tc_c.proofs.wheel_handle.TcWheel.wheel.Code as code

abbrev handle : Handle
handle = record {
  name = the_type.name;
  lodger_name = inside.the_type.name;
  lodger_type = lone (lodger.the_row).mir;
  lodger = lodger.the_row;
  D = TcWheel;
  at = λ h. h.at;
  value = λ h. h.value;
  with = with_wheel;
  at_stays = λ h w. refl;
  value_is = λ h w. refl;
  coded = the_type.coded;
  exit = the_type.exit;
  shr_at = the_type.shr_at;
}

pub wheel_spec : {M : Type 1} → statement M
wheel_spec 𝓤 𝓛 𝓜 𝓡 wired = lends handle 𝓛 𝓜 𝓡 f.Key.name (code.unfolded 𝓤 𝓛.H 𝓜 𝓡 wired)
