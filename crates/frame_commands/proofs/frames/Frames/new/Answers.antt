use Rattle.std.proofs.Common.{refl, ap, arith}
use Rattle.flywheel.specs.Wheel.{Wheel}
use Rattle.frame_commands.proofs.frames.Frames.new.Goals as goal

-- no frame was given
pub returns : goal.returns
returns c = record {
  limit_is = ap (λ (w : Wheel). w.limit) c.new.ensures.value;
  wheel = (c.new.ensures.stands, refl);
  fits = record { within = omega arith; words = omega arith; more_frames = rw c.new.ensures.value (omega arith) };
  heard_by = rw c.new.ensures.value tt;
  heard = refl;
  invented = refl;
  gone = refl;
}
