-- `maker` lends on a maker of cells that lies behind the handle's pointer.
use Rattle.std.proofs.Common.{refl}
use denote.Memory.{lone}
use Rattle.tc_c.specs.Lending.{with_maker}
use Rattle.tc_c.specs.declared.maker_handle.TcMaker.{TcMaker}
use Rattle.tc_c.specs.contracts.maker_handle.TcMaker.{the_type}
use Rattle.tc_c.specs.contracts.maker_handle.TcMaker.maker as f
use Rattle.tc_c.specs.contracts.maker_kept.KeptMaker as lodger
use Rattle.tc_c.specs.contracts.maker_kept.KeptMaker.TheInside as inside
use Rattle.tc_c.proofs.LendsOn.{Handle, lends}
use Rattle.tc_c.proofs.maker_handle.TcMaker.maker.Statement.{statement}
use Rattle.tc_c.proofs.maker_handle.TcMaker.maker.Code as code

abbrev handle : Handle
handle = record {
  name = the_type.name;
  lodger_name = inside.the_type.name;
  lodger_type = lone (lodger.the_row).mir;
  lodger = lodger.the_row;
  D = TcMaker;
  at = λ h. h.at;
  value = λ h. h.value;
  with = with_maker;
  at_stays = λ h w. refl;
  value_is = λ h w. refl;
  coded = the_type.coded;
  exit = the_type.exit;
  shr_at = the_type.shr_at;
}

pub maker_spec : {M : Type 1} → statement M
maker_spec 𝓤 𝓛 𝓜 𝓡 wired = lends handle 𝓛 𝓜 𝓡 f.Key.name (code.unfolded 𝓤 𝓛.H 𝓜 𝓡 wired)
