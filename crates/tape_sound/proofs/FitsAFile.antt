-- The intervals of a tape as they are found fit a file if its own do, with room for the delay: none is 0, and there
-- are as many.
use Rattle.std.proofs.Common.{◌≡◌, ℕ, ◌+◌, ◌<◌, ◌≤◌, List, [], ◌∷◌, length, refl, arith}
use Rattle.std.specs.List.{AllByRecursion}
use Rattle.biphase.specs.declared.cell.Cell.{Cell}
use Rattle.biphase.specs.declared.cell.Cell.TheVariants.{Zero, One}
use Rattle.limits.specs.declared.recording.TheConstants.{MAX_INTERVAL}
use Rattle.biphase.specs.declared.profile.Profile.{Profile}
use Rattle.biphase.specs.Chain.{flat}
use Rattle.pcm_front.specs.Distance.{IsInterval}
use Rattle.tape_sound.specs.Late.{drift_from, AreFoundAs, IsSteady}
use Rattle.tape_sound.proofs.LastsLong.{half_drift, lasts, steady_rest}

-- an interval that lasts longer than a delay, and fits with one more
interval_fits : (delay first last c x : ℕ) → first ≤ delay → last ≤ delay → c + last ≡ first + x → delay < c
    → c + delay ≤ 16_777_215 → IsInterval x
interval_fits delay first last c x early late is long short = (omega arith, omega arith)

pub found_fit : (profile : Profile) (delay first : ℕ) (tape cells : List Cell) → first ≤ delay
    → IsSteady profile delay tape → AreFoundAs delay first tape cells
    → AllByRecursion (λ interval. interval + delay ≤ MAX_INTERVAL) (flat tape) → AllByRecursion IsInterval (flat cells)
found_fit profile delay first [] [] early steady found short = tt
found_fit profile delay first [] (x ∷ cells) early steady found short = absurd found
found_fit profile delay first (cell ∷ tape) [] early steady found short = absurd found
found_fit profile delay first (Zero c ∷ tape) (Zero x ∷ cells) early steady found short =
    let long = lasts profile delay (drift_from c (Zero c)) c steady.0 in (
      interval_fits delay first found.0 c x early found.1 found.2 (omega (arith, long)) short.0,
      found_fit profile delay found.0 tape cells found.1 (steady_rest profile delay c tape steady.1) found.3 short.1,
    )
found_fit profile delay first (One a b ∷ tape) (One x y ∷ cells) early steady found short =
    let middle = found.2 in
    let long = lasts profile delay (drift_from (a + b) (One a b)) (a + b) steady.0 in
    let drift = half_drift (a + b) a b in (
      interval_fits delay first middle.0 a x early middle.1 middle.2 (omega (arith, long, drift.1)) short.0,
      (
        interval_fits delay middle.0 found.0 b y middle.1 found.1 middle.3 (omega (arith, long, drift.0)) short.1.0,
        found_fit profile delay found.0 tape cells found.1 (steady_rest profile delay (a + b) tape steady.1) found.3
            short.1.1,
      ),
    )
found_fit profile delay first (Zero c ∷ tape) (One x y ∷ cells) early steady found short = absurd found.2
found_fit profile delay first (One a b ∷ tape) (Zero x ∷ cells) early steady found short = absurd found.2

-- there are as many as on the tape
pub found_many : (delay first : ℕ) (tape cells : List Cell) → AreFoundAs delay first tape cells
    → length (flat cells) ≡ length (flat tape)
found_many delay first [] [] found = refl
found_many delay first [] (x ∷ cells) found = absurd found
found_many delay first (cell ∷ tape) [] found = absurd found
found_many delay first (Zero c ∷ tape) (Zero x ∷ cells) found =
    let more = found_many delay found.0 tape cells found.3 in omega (arith, more)
found_many delay first (One a b ∷ tape) (One x y ∷ cells) found =
    let more = found_many delay found.0 tape cells found.3 in omega (arith, more)
found_many delay first (Zero c ∷ tape) (One x y ∷ cells) found = absurd found.2
found_many delay first (One a b ∷ tape) (Zero x ∷ cells) found = absurd found.2
