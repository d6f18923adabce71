-- Eight subframes are less than half of any day, so a slip within the bound is a shortest way.
use Rattle.std.proofs.Common.{◌≡◌, ◌<◌, ℕ, ℤ, arith}
use Rattle.std.proofs.lemmas.Int.{ints}
use Rattle.tc_address.specs.declared.count.Count.{Count}
use Rattle.tc_address.specs.declared.count.Count.TheVariants.{C24, C25, C30, Drop30}
use Rattle.tc_address.specs.Circle.{moved, IsShortest}
use Rattle.transport_model.specs.Move.{day_of, HonoursBound}

pub a_day_is_long : (count : Count) → 16 < day_of count
a_day_is_long C24 = omega arith
a_day_is_long C25 = omega arith
a_day_is_long C30 = omega arith
a_day_is_long Drop30 = omega arith

pub is_shortest : (day from place : ℕ) (slip : ℤ) → 16 < day → HonoursBound slip → moved day from slip ≡ place
    → IsShortest day from place slip
is_shortest day from place slip long bound there =
    record { reaches = there; above = omega (arith, ints, bound); within = omega (arith, ints, bound) }
