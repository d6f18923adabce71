-- `maker` lends on a maker of sound that lies behind the handle's pointer.
use Rattle.std.proofs.Common.{refl}
use denote.Memory.{lone}
use Rattle.tc_c.specs.Lending.{with_sound}
use Rattle.tc_c.specs.declared.sound_handle.TcSound.{TcSound}
use Rattle.tc_c.specs.contracts.sound_handle.TcSound.{the_type}
use Rattle.tc_c.specs.contracts.sound_handle.TcSound.maker as f
use Rattle.tc_c.specs.contracts.sound_kept.KeptSound as lodger
use Rattle.tc_c.specs.contracts.sound_kept.KeptSound.TheInside as inside
use Rattle.tc_c.proofs.LendsOn.{Handle, lends}
use Rattle.tc_c.proofs.sound_handle.TcSound.maker.Statement.{statement}
use Rattle.tc_c.proofs.sound_handle.TcSound.maker.Code as code

abbrev handle : Handle
handle = record {
  name = the_type.name;
  lodger_name = inside.the_type.name;
  lodger_type = lone (lodger.the_row).mir;
  lodger = lodger.the_row;
  D = TcSound;
  at = λ h. h.at;
  value = λ h. h.value;
  with = with_sound;
  at_stays = λ h w. refl;
  value_is = λ h w. refl;
  coded = the_type.coded;
  exit = the_type.exit;
  shr_at = the_type.shr_at;
}

pub maker_spec : {M : Type 1} → statement M
maker_spec 𝓤 𝓛 𝓜 𝓡 wired = lends handle 𝓛 𝓜 𝓡 f.Key.name (code.unfolded 𝓤 𝓛.H 𝓜 𝓡 wired)
