-- What is kept stays in its range, as time passes and when the sound goes over to a side; and the ticks of some
-- of the samples
-- have room if those of all have.
use Rattle.std.proofs.Common.{ℕ, ◌+◌, ◌-◌, ◌*◌, ◌≤◌, ℤ, Option, Some, None, mul-le-mul_left, arith}
use Rattle.std.specs.Prelude.{IfSome}
use Rattle.pcm_front.specs.declared.level.Level.{Level}
use Rattle.pcm_front.specs.declared.side.Side.{Side}
use Rattle.pcm_front.specs.Level.{IsInRange, IsSum}
use Rattle.pcm_front.specs.State.{FinderState, IsKept}

later : (moment : Option ℕ) (a b : ℕ) → a ≤ b → IfSome moment (λ m. m ≤ a) → IfSome moment (λ m. m ≤ b)
later None a b more h = h
later (Some m) a b more h = omega (arith, more, h)

behind_later : (side : Option Side) (moment : Option ℕ) (a b : ℕ) → a ≤ b
    → IfSome side (λ s. IfSome moment (λ m. m ≤ a))
    → IfSome side (λ s. IfSome moment (λ m. m ≤ b))
behind_later None moment a b more h = h
behind_later (Some s) moment a b more h = later moment a b more h

pub kept_later : (state : FinderState) (tick : ℕ) (before : ℤ) (level : Level) → IsKept state → state.tick ≤ tick
    → IsSum before → IsInRange level
    → IsKept (record state { tick = tick; before = before; level = level })
kept_later state tick before level kept more size range = record {
  least = kept.least;
  most = kept.most;
  threshold = kept.threshold;
  before = size;
  level = range;
  latest = later state.latest (state.tick + state.fineness) (tick + state.fineness) (omega (arith, more)) kept.latest;
  behind = behind_later state.side state.latest state.tick tick more kept.behind;
}

pub kept_crossed : (state : FinderState) (tick moment : ℕ) (before : ℤ) (side : Side) → IsKept state → moment ≤ tick
    → IsSum before
    → IsKept (record state { tick = tick; before = before; side = Some side; latest = Some moment })
kept_crossed state tick moment before side kept passed size = record {
  least = kept.least;
  most = kept.most;
  threshold = kept.threshold;
  before = size;
  level = kept.level;
  latest = omega (arith, passed);
  behind = passed;
}

-- there is room for the ticks up to an end
pub ticks_within : (tick fineness at end long most : ℕ) → end ≤ long → tick + fineness * (long - at) ≤ most
    → tick + fineness * (end - at) ≤ most
ticks_within tick fineness at end long most within room =
    let few : end - at ≤ long - at = omega (arith, within) in
    let ticks : fineness * (end - at) ≤ fineness * (long - at) = mul-le-mul_left fineness few in
    omega (arith, room, ticks)
