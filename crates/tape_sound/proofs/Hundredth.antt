-- A cell that differs from the one before it by a hundredth of that one differs from it by a ninety-ninth of its own.
use Rattle.std.proofs.Common.{ℕ, ◌*◌, ◌<◌, ◌≤◌, max, List, [], ◌∷◌, arith}
use Rattle.std.specs.Int.{abs_diff}
use Rattle.biphase.specs.declared.cell.Cell.{Cell}
use Rattle.biphase.specs.declared.profile.Profile.{Profile}
use Rattle.biphase.specs.declared.profile.Profile.TheVariants.{Normal, Worn, Rough}
use Rattle.biphase.specs.Profile.{IsWithin}
use Rattle.biphase.specs.Tolerance.{length_of}
use Rattle.tape_sound.specs.Late.{delays_of, drift_from, uneven, IsSteady, IsWithinAHundredth, Outlasts, RunOn}
use Rattle.tape_sound.specs.Late.{RunWithinAHundredth}

small_drift : (before c apart : ℕ) → IsWithin 100 c before before → 100 * apart ≤ c
    → 99 * max (abs_diff c before) apart ≤ c
small_drift before c apart near even = omega arith

outlasts : (profile : Profile) (delay drift c : ℕ) → delays_of profile * delay < c → 99 * drift ≤ c
    → Outlasts profile delay drift c
outlasts Normal delay drift c long small = omega arith
outlasts Worn delay drift c long small = omega arith
outlasts Rough delay drift c long small = (omega arith, omega arith)

runs_on : (profile : Profile) (delay before : ℕ) (tape : List Cell)
    → RunWithinAHundredth (delays_of profile) delay before tape
    → RunOn profile delay before tape
runs_on profile delay before [] runs = tt
runs_on profile delay before (cell ∷ tape) runs = (
  outlasts profile delay (drift_from before cell) (length_of cell) runs.0
      (small_drift before (length_of cell) (uneven cell) runs.1 runs.2),
  runs_on profile delay (length_of cell) tape runs.3,
)

pub steady : (profile : Profile) (delay : ℕ) (tape : List Cell) → IsWithinAHundredth (delays_of profile) delay tape
    → IsSteady profile delay tape
steady profile delay [] within = tt
steady profile delay (cell ∷ tape) within = runs_on profile delay (length_of cell) (cell ∷ tape) within
