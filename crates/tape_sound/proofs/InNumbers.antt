-- Of cells that differ by a drift at most each one differs by it from the one before, so a tape of them is steady.
use Rattle.std.proofs.Common.{◌≡◌, ℕ, ◌+◌, ◌*◌, ◌<◌, ◌≤◌, max, List, [], ◌∷◌, arith}
use Rattle.std.specs.Int.{abs_diff}
use Rattle.std.specs.List.{AllByRecursion}
use Rattle.biphase.specs.declared.cell.Cell.{Cell}
use Rattle.biphase.specs.declared.cell.Cell.TheVariants.{Zero, One}
use Rattle.biphase.specs.declared.profile.Profile.{Profile}
use Rattle.biphase.specs.declared.profile.Profile.TheVariants.{Normal, Worn, Rough}
use Rattle.biphase.specs.Profile.{IsWithin}
use Rattle.biphase.specs.Tolerance.{length_of}
use Rattle.tape_sound.specs.Late.{delays_of, drift_from, uneven, IsSteady, IsWithinAHundredth, Outlasts, RunOn}
use Rattle.tape_sound.specs.Late.{RunsEvenly, RunWithinAHundredth}

abbrev LastAbout : ℕ → ℕ → List Cell → Type 0
LastAbout least drift tape = AllByRecursion (λ cell. (least ≤ length_of cell) × (length_of cell ≤ least + drift)) tape

abbrev AreAbout : ℕ → List Cell → Type 0
AreAbout drift tape = AllByRecursion (λ cell. uneven cell ≤ drift) tape

-- any cells longer than this tolerance asks of the drift
abbrev IsLong : Profile → ℕ → ℕ → ℕ → Type 0
IsLong profile delay drift least = (apart length : ℕ) → apart ≤ drift → least ≤ length
    → Outlasts profile delay apart length

long_normal : (delay drift least : ℕ) → 16 * drift + 32 * delay < least → IsLong Normal delay drift least
long_normal delay drift least fits apart length small long = omega (arith, fits, small, long)

long_worn : (delay drift least : ℕ) → 12 * drift + 24 * delay < least → IsLong Worn delay drift least
long_worn delay drift least fits apart length small long = omega (arith, fits, small, long)

long_rough : (delay drift least : ℕ) → 8 * drift + 10 * delay < least → 12 * drift + 9 * delay < least
    → IsLong Rough delay drift least
long_rough delay drift least fits too apart length small long =
    (omega (arith, fits, small, long), omega (arith, too, small, long))

drift_within : (least drift before long halves : ℕ) → least ≤ before → before ≤ least + drift → least ≤ long
    → long ≤ least + drift → halves ≤ drift → max (abs_diff long before) halves ≤ drift
drift_within least drift before long halves from to at most small = omega arith

run_on : (profile : Profile) (least drift delay before : ℕ) (tape : List Cell) → IsLong profile delay drift least
    → least ≤ before → before ≤ least + drift → LastAbout least drift tape → AreAbout drift tape
    → RunOn profile delay before tape
run_on profile least drift delay before [] outlast from to last halves = tt
run_on profile least drift delay before (cell ∷ tape) outlast from to last halves = (
  outlast (drift_from before cell) (length_of cell)
      (drift_within least drift before (length_of cell) (uneven cell) from to last.0.0 last.0.1 halves.0) last.0.0,
  run_on profile least drift delay (length_of cell) tape outlast last.0.0 last.0.1 last.1 halves.1,
)

steady_of : (profile : Profile) (least drift delay : ℕ) (tape : List Cell) → IsLong profile delay drift least
    → LastAbout least drift tape → AreAbout drift tape → IsSteady profile delay tape
steady_of profile least drift delay [] outlast last halves = tt
steady_of profile least drift delay (cell ∷ tape) outlast last halves =
    run_on profile least drift delay (length_of cell) (cell ∷ tape) outlast last.0.0 last.0.1 last halves

pub steady_normal : (least drift delay : ℕ) (tape : List Cell) → LastAbout least drift tape → AreAbout drift tape
    → 16 * drift + 32 * delay < least → IsSteady Normal delay tape
steady_normal least drift delay tape last halves fits =
    steady_of Normal least drift delay tape (long_normal delay drift least fits) last halves

pub steady_worn : (least drift delay : ℕ) (tape : List Cell) → LastAbout least drift tape → AreAbout drift tape
    → 12 * drift + 24 * delay < least → IsSteady Worn delay tape
steady_worn least drift delay tape last halves fits =
    steady_of Worn least drift delay tape (long_worn delay drift least fits) last halves

pub steady_rough : (least drift delay : ℕ) (tape : List Cell) → LastAbout least drift tape → AreAbout drift tape
    → 8 * drift + 10 * delay < least → 12 * drift + 9 * delay < least → IsSteady Rough delay tape
steady_rough least drift delay tape last halves fits too =
    steady_of Rough least drift delay tape (long_rough delay drift least fits too) last halves

-- ---- without drift

even_lengths : (half : ℕ) (tape : List Cell) → RunsEvenly half tape → LastAbout (2 * half) 0 tape
even_lengths half [] runs = tt
even_lengths half (Zero c ∷ tape) runs =
    ((omega (arith, runs.0), omega (arith, runs.0)), even_lengths half tape runs.1)
even_lengths half (One a b ∷ tape) runs =
    ((omega (arith, runs.0, runs.1), omega (arith, runs.0, runs.1)), even_lengths half tape runs.2)

same_halves : (half a b : ℕ) → a ≡ half → b ≡ half → abs_diff a b ≤ 0
same_halves half a b one other = omega arith

even_halves : (half : ℕ) (tape : List Cell) → RunsEvenly half tape → AreAbout 0 tape
even_halves half [] runs = tt
even_halves half (Zero c ∷ tape) runs = (omega arith, even_halves half tape runs.1)
even_halves half (One a b ∷ tape) runs = (same_halves half a b runs.0 runs.1, even_halves half tape runs.2)

pub even_normal : (half delay : ℕ) (tape : List Cell) → RunsEvenly half tape → 32 * delay < 2 * half
    → IsSteady Normal delay tape
even_normal half delay tape runs fits =
    steady_normal (2 * half) 0 delay tape (even_lengths half tape runs) (even_halves half tape runs)
    (omega (arith, fits))

pub even_worn : (half delay : ℕ) (tape : List Cell) → RunsEvenly half tape → 24 * delay < 2 * half
    → IsSteady Worn delay tape
even_worn half delay tape runs fits =
    steady_worn (2 * half) 0 delay tape (even_lengths half tape runs) (even_halves half tape runs)
    (omega (arith, fits))

pub even_rough : (half delay : ℕ) (tape : List Cell) → RunsEvenly half tape → 10 * delay < 2 * half
    → IsSteady Rough delay tape
even_rough half delay tape runs fits =
    steady_rough (2 * half) 0 delay tape (even_lengths half tape runs) (even_halves half tape runs)
    (omega (arith, fits)) (omega (arith, fits))

-- ---- within a hundredth

abbrev LastWithin : ℕ → List Cell → Type 0
LastWithin least tape =
    AllByRecursion (λ cell. (least ≤ length_of cell) × (100 * length_of cell ≤ 101 * least)) tape

abbrev AreWithin : ℕ → List Cell → Type 0
AreWithin least tape = AllByRecursion (λ cell. 100 * uneven cell ≤ least) tape

near : (least before long : ℕ) → least ≤ before → 100 * before ≤ 101 * least → least ≤ long
    → 100 * long ≤ 101 * least → IsWithin 100 long before before
near least before long from to at most = omega arith

run_within : (delays least delay before : ℕ) (tape : List Cell) → delays * delay < least → least ≤ before
    → 100 * before ≤ 101 * least → LastWithin least tape → AreWithin least tape
    → RunWithinAHundredth delays delay before tape
run_within delays least delay before [] fits from to last halves = tt
run_within delays least delay before (cell ∷ tape) fits from to last halves = (
  omega (arith, fits, last.0.0),
  near least before (length_of cell) from to last.0.0 last.0.1,
  omega (arith, halves.0, last.0.0),
  run_within delays least delay (length_of cell) tape fits last.0.0 last.0.1 last.1 halves.1,
)

pub within_a_hundredth : (profile : Profile) (least delay : ℕ) (tape : List Cell) → LastWithin least tape
    → AreWithin least tape → delays_of profile * delay < least
    → IsWithinAHundredth (delays_of profile) delay tape
within_a_hundredth profile least delay [] last halves fits = tt
within_a_hundredth profile least delay (cell ∷ tape) last halves fits =
    run_within (delays_of profile) least delay (length_of cell) (cell ∷ tape) fits last.0.0 last.0.1 last halves
