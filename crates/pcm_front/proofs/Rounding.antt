-- A quotient that is rounded up is the least whole number that is not below it, so a crossing lies within the ticks
-- of its step.
use Rattle.std.proofs.Common.{◌≡◌, ℕ, ◌*◌, ◌≤◌, Bool, true, false, cond, ℤ, pos}
use Rattle.std.proofs.Common.{◌≤ℤ◌, int_le, Some}
use Rattle.std.proofs.Common.{refl}
use Rattle.std.proofs.Common.{arith}
use Rattle.std.specs.Int.{div_ceil}
use Rattle.std.proofs.lemmas.Int.{ints}
use Rattle.pcm_front.specs.SideLemmas.{side_above}
use Rattle.lemmas.specs.Quotients.{quotient_within}
use Rattle.pcm_front.specs.declared.side.Side.{Side}
use Rattle.pcm_front.specs.Side.{side_of, upward}
use Rattle.pcm_front.specs.Crossing.{apart, tick_in_step, tick_to}

-- if a lies below the threshold and b does not, the way to the threshold is a part of the step
pub part_of_step : (t : ℕ) (a b : ℤ) → int_le (pos t) a ≡ false → pos t ≤ℤ b → (1 ≤ apart (pos t) a)
    × (apart (pos t) a ≤ apart b a)
part_of_step t a b below above = grind (arith, ints)

tick_in_step-by : (reached : Bool) (f t : ℕ) (a b : ℤ) → int_le (pos t) a ≡ reached → 1 ≤ f → pos t ≤ℤ b →
    (1 ≤ cond reached 1 (div_ceil (f * apart (pos t) a) (apart b a)))
    × (cond reached 1 (div_ceil (f * apart (pos t) a) (apart b a)) ≤ f)
tick_in_step-by true f t a b is some above = (omega arith, some)
tick_in_step-by false f t a b is some above =
    let part = part_of_step t a b is above in quotient_within f (apart (pos t) a) (apart b a) some part.0 part.1

-- the tick of a crossing is from 1 to the fineness
pub tick_in_step-within : (f t : ℕ) (a b : ℤ) → 1 ≤ f → pos t ≤ℤ b → (1 ≤ tick_in_step f t a b)
    × (tick_in_step f t a b ≤ f)
tick_in_step-within f t a b some above = tick_in_step-by (int_le (pos t) a) f t a b refl some above

pub tick_is : (f t : ℕ) (a b : ℤ) (rise step : ℕ) → int_le (pos t) a ≡ false → rise ≡ apart (pos t) a
    → step ≡ apart b a →
    div_ceil (f * rise) step ≡ tick_in_step f t a b
tick_is f t a b rise step below rise_is step_is = rw (below, rise_is, step_is) refl

pub tick_to-within : (side : Side) (f t : ℕ) (a b : ℤ) → 1 ≤ f → side_of t b ≡ Some side →
    (1 ≤ tick_to (Some side) f t a b) × (tick_to (Some side) f t a b ≤ f)
tick_to-within side f t a b some found = tick_in_step-within f t (upward side a) (upward side b) some
    (side_above t b side found)
