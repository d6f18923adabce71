use Rattle.std.proofs.Common.{◌*◌, pos, arith}
use Rattle.std.proofs.lemmas.Grind.{div_ceil_times}
use Rattle.pcm_front.specs.Crossing.{apart}
use Rattle.pcm_front.proofs.Rounding.{part_of_step}
use Rattle.pcm_front.proofs.laws.a_tick_is_rounded_up.Goals as goal

-- the step is no shorter than the way to the threshold, so it is some way
pub returns : goal.returns
returns c = λ fineness threshold a b below above.
    let part = part_of_step threshold a b below above in
    rw below (div_ceil_times (fineness * apart (pos threshold) a) (apart b a) (omega arith))
