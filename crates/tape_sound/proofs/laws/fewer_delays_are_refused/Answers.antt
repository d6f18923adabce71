use Rattle.std.proofs.Common.{refl, arith}
use Rattle.tape_sound.proofs.laws.fewer_delays_are_refused.Goals as goal

-- the middle is found 50 ticks late, and the end in time
pub returns-clause-normal : goal.returns-clause-normal
returns-clause-normal c = (
  (omega arith, omega arith, omega arith, tt),
  (0, omega arith, (50, omega arith, refl, refl), tt),
  λ chain. let halves = chain.0.2 in omega (arith, halves),
)

pub returns-clause-worn : goal.returns-clause-worn
returns-clause-worn c = (
  (omega arith, omega arith, omega arith, tt),
  (0, omega arith, (50, omega arith, refl, refl), tt),
  λ chain. let halves = chain.0.2 in omega (arith, halves),
)

-- of the two halves, the lesser is not two thirds of the greater
pub returns-clause-rough : goal.returns-clause-rough
returns-clause-rough c = (
  (omega arith, omega arith, omega arith, tt),
  (0, omega arith, (10, omega arith, refl, refl), tt),
  λ chain. let equal = chain.1 in omega (arith, equal),
)
