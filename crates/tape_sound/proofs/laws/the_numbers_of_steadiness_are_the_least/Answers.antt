use Rattle.std.proofs.Common.{refl, arith}
use Rattle.tape_sound.proofs.laws.the_numbers_of_steadiness_are_the_least.Goals as goal

-- the halves differ by too much as they are
pub returns-clause-normal_drifts : goal.returns-clause-normal_drifts
returns-clause-normal_drifts c = (omega arith, λ chain. let halves = chain.0.2 in omega (arith, halves))

pub returns-clause-worn_drifts : goal.returns-clause-worn_drifts
returns-clause-worn_drifts c = (omega arith, λ chain. let halves = chain.0.2 in omega (arith, halves))

-- the middle is found 10 ticks late, and the end in time
pub returns-clause-normal_delays : goal.returns-clause-normal_delays
returns-clause-normal_delays c = (
  omega arith,
  (0, omega arith, (10, omega arith, refl, refl), tt),
  λ chain. let halves = chain.0.2 in omega (arith, halves),
)

pub returns-clause-worn_delays : goal.returns-clause-worn_delays
returns-clause-worn_delays c = (
  omega arith,
  (0, omega arith, (10, omega arith, refl, refl), tt),
  λ chain. let halves = chain.0.2 in omega (arith, halves),
)

pub returns-clause-rough_delays : goal.returns-clause-rough_delays
returns-clause-rough_delays c = (
  omega arith,
  (0, omega arith, (10, omega arith, refl, refl), tt),
  λ chain. let equal = chain.1 in omega (arith, equal),
)
