-- What each tolerance needs of a cell leaves it longer than eight drifts and ten delays, and each half longer than four
-- delays: no transition is found behind the next one.
use Rattle.std.proofs.Common.{ℕ, ◌+◌, ◌*◌, ◌<◌, ◌≤◌, List, [], ◌∷◌, arith}
use Rattle.biphase.specs.declared.cell.Cell.{Cell}
use Rattle.biphase.specs.declared.cell.Cell.TheVariants.{Zero, One}
use Rattle.biphase.specs.declared.profile.Profile.{Profile}
use Rattle.biphase.specs.declared.profile.Profile.TheVariants.{Normal, Worn, Rough}
use Rattle.biphase.specs.Tolerance.{length_of}
use Rattle.tape_sound.specs.Late.{drift_from, Outlasts, RunOn, IsSteady}

pub lasts : (profile : Profile) (delay drift c : ℕ) → Outlasts profile delay drift c → 8 * drift + 10 * delay < c
lasts Normal delay drift c long = omega (arith, long)
lasts Worn delay drift c long = omega (arith, long)
lasts Rough delay drift c long = long.0

-- a cell differs from the one before it by its drift at most
pub cell_drift : (before : ℕ) (cell : Cell)
    → (length_of cell ≤ before + drift_from before cell) × (before ≤ length_of cell + drift_from before cell)
cell_drift before (Zero c) = (omega arith, omega arith)
cell_drift before (One a b) = (omega arith, omega arith)

-- and so do its halves from each other
pub half_drift : (before a b : ℕ) → (a ≤ b + drift_from before (One a b)) × (b ≤ a + drift_from before (One a b))
half_drift before a b = (omega arith, omega arith)

-- a tape is steady from each of its cells on
pub steady_rest : (profile : Profile) (delay before : ℕ) (tape : List Cell) → RunOn profile delay before tape
    → IsSteady profile delay tape
steady_rest profile delay before [] runs = tt
steady_rest profile delay before (Zero c ∷ tape) runs = (first_lasts profile runs.0, runs.1)
  where
    first_lasts : (profile : Profile) → Outlasts profile delay (drift_from before (Zero c)) c
        → Outlasts profile delay (drift_from c (Zero c)) c
    first_lasts Normal long = omega (arith, long)
    first_lasts Worn long = omega (arith, long)
    first_lasts Rough long = (omega (arith, long.0), omega (arith, long.1))
steady_rest profile delay before (One a b ∷ tape) runs = (first_lasts profile runs.0, runs.1)
  where
    first_lasts : (profile : Profile) → Outlasts profile delay (drift_from before (One a b)) (a + b)
        → Outlasts profile delay (drift_from (a + b) (One a b)) (a + b)
    first_lasts Normal long = omega (arith, long)
    first_lasts Worn long = omega (arith, long)
    first_lasts Rough long = (omega (arith, long.0), omega (arith, long.1))
