-- The numbers of a level stay within their bounds: the peak never passes the greatest size, and the sum loses a
-- 1024th of itself.
use Rattle.std.proofs.Common.{◌≡◌, ℕ, ◌+◌, ◌-◌, ◌*◌, ◌<◌, ◌≤◌, Bool, true, false, cond, nat_lt, ℤ, unsigned_abs, List}
use Rattle.std.proofs.Common.{[], ◌∷◌, refl, arith}
use Rattle.std.specs.List.{fold, AllByRecursion}
use Rattle.std.specs.Int.{div_ceil}
use Rattle.std.proofs.lemmas.Bool.Decides.{nat_tests}
use Rattle.pcm_front.specs.declared.level.Level.{Level}
use Rattle.pcm_front.specs.Level.{silent, peak_after, sum_after, level_after, level_of}

-- a quarter, rounded up, is no more than the whole
quarter-least : (n : ℕ) → div_ceil n 4 ≤ n
quarter-least n = omega arith

peak-by : (greater : Bool) (most peak size : ℕ) → nat_lt peak size ≡ greater → peak ≤ most → size ≤ most →
    cond greater (peak + div_ceil (size - peak) 4) (peak - div_ceil peak 1_024) ≤ most
peak-by true most peak size is within within_too = let below : peak < size = grind (arith, nat_tests) in
    omega (arith, quarter-least (size - peak))
peak-by false most peak size is within within_too = omega arith

pub peak-within : (most peak size : ℕ) → peak ≤ most → size ≤ most → peak_after peak size ≤ most
peak-within most peak size within within_too = peak-by (nat_lt peak size) most peak size refl within within_too

pub sum-within : (most sum size : ℕ) → sum ≤ 1_024 * most → size ≤ most → sum_after sum size ≤ 1_024 * most
sum-within most sum size within within_too = omega arith

-- the numbers of a level, if sizes are within this
abbrev pub IsWithin : ℕ → Level → Type 0
IsWithin most level = (level.peak ≤ most) × (level.sum ≤ 1_024 * most)

pub level-within : (most : ℕ) (level : Level) (s : ℤ) → IsWithin most level → unsigned_abs s ≤ most
    → IsWithin most (level_after level s)
level-within most level s range size =
    (peak-within most level.peak (unsigned_abs s) range.0 size, sum-within most level.sum (unsigned_abs s) range.1 size)

fold-within : (most : ℕ) (level : Level) (xs : List ℤ) → IsWithin most level
    → AllByRecursion (λ s. unsigned_abs s ≤ most) xs
    → IsWithin most (fold level_after level xs)
fold-within most level [] range sizes = range
fold-within most level (s ∷ xs) range sizes = fold-within most (level_after level s) xs
    (level-within most level s range sizes.0) sizes.1

pub level_of-within : (most : ℕ) (xs : List ℤ) → AllByRecursion (λ s. unsigned_abs s ≤ most) xs
    → IsWithin most (level_of xs)
level_of-within most xs sizes = fold-within most silent xs (omega arith, omega arith) sizes
