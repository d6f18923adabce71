-- The runs that are in bytes: half as many, and each of them by its two bytes.
use Rattle.std.proofs.Common.{◌≡◌, ℕ, zero, suc, ◌*◌, ◌/◌, ◌<◌, List, [], ◌∷◌, length, drop, get_or, refl, arith}
use Rattle.byteorder.specs.Endian.{big_number}
use Rattle.vitc_reader.specs.Runs.{runs_of_bytes}

pub count_of : (bytes : List ℕ) → length (runs_of_bytes bytes) ≡ length bytes / 2
count_of [] = refl
count_of (a ∷ []) = refl
count_of (a ∷ b ∷ more) = let h = count_of more in omega (arith, h)

pub pair_at : (i : ℕ) (bytes : List ℕ) → i < length bytes / 2
    → big_number 2 (drop (2 * i) bytes) ≡ get_or (runs_of_bytes bytes) i 0
pair_at i [] lt = absurd (omega (arith, lt))
pair_at i (a ∷ []) lt = absurd (omega (arith, lt))
pair_at zero (a ∷ b ∷ more) lt = omega arith
pair_at (suc i) (a ∷ b ∷ more) lt = let e : 2 * suc i ≡ suc (suc (2 * i)) = omega arith in
    rw e (pair_at i more (omega (arith, lt)))
