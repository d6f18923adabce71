-- A sample is read from its two bytes as it was written, and so are all of them.
use Rattle.std.proofs.Common.{◌≡◌, ℕ, zero, suc, ◌<◌, ◌^◌, ℤ, pos, List, [], ◌∷◌, ◌++◌, replicate, refl, ap, ap₂, ◌∙◌}
use Rattle.std.proofs.Common.{arith}
use Rattle.std.specs.Prelude.{unsigned_abs, FitsSigned}
use Rattle.std.specs.List.{AllByRecursion}
use Rattle.std.specs.Int.{w16, cast_signed, cast_unsigned}
use Rattle.std.proofs.lemmas.Int.{fits_signed_from_abs, to_z-of_z}
use Rattle.lemmas.specs.Bits.{in_two_bytes}
use Rattle.byteorder.specs.Numbers.{little_number-reads_back}
use Rattle.pcm_front.specs.declared.side.Side.{Side}
use Rattle.pcm_front.specs.declared.side.Side.TheVariants.{High, Low}
use Rattle.pcm_front.specs.Runs.{joined}
use Rattle.pcm_front.specs.Samples.{bytes_of, sample_bytes, sample_in, samples_of}
use Rattle.pcm_front.specs.Side.{other_side, upward}
use Rattle.pcm_front.specs.Sound.{sound, sound_runs}

one_back : (sample : ℤ) → FitsSigned w16 sample → sample_in (sample_bytes sample) ≡ sample
one_back sample fits =
    ap (cast_signed w16) (little_number-reads_back 2 (cast_unsigned w16 sample) [] (in_two_bytes sample fits))
    ∙ to_z-of_z w16 sample fits

pub read_back : (samples : List ℤ) → AllByRecursion (FitsSigned w16) samples → samples_of (bytes_of samples) ≡ samples
unfolding samples_of
read_back [] all = refl
read_back (sample ∷ more) all = ap₂ (λ first rest. first ∷ rest) (one_back sample all.0) (read_back more all.1)

-- ---- the samples of a sound

pub size_of : (side : Side) (size : ℕ) → unsigned_abs (upward side (pos size)) ≡ size
size_of High size = refl
size_of Low zero = refl
size_of Low (suc size) = refl

fits : (size : ℕ) (side : Side) → size < 2 ^ 15 → FitsSigned w16 (upward side (pos size))
fits size side below = fits_signed_from_abs w16 (upward side (pos size)) (omega (arith, size_of side size))

pub all_same : (P : ℤ → Type 0) (n : ℕ) (x : ℤ) → P x → AllByRecursion P (replicate n x)
all_same P zero x p = tt
all_same P (suc n) x p = (p, all_same P n x p)

pub all_both : (P : ℤ → Type 0) (xs ys : List ℤ) → AllByRecursion P xs → AllByRecursion P ys
    → AllByRecursion P (xs ++ ys)
all_both P [] ys all more = more
all_both P (x ∷ xs) ys all more = (all.0, all_both P xs ys all.1 more)

all_fit : (size : ℕ) (side : Side) (intervals : List ℕ) → size < 2 ^ 15
    → AllByRecursion (FitsSigned w16) (joined (sound_runs size side intervals))
all_fit size side [] below = (fits size side below, tt)
all_fit size side (x ∷ xs) below =
    all_both (FitsSigned w16) (replicate x (upward side (pos size))) (joined (sound_runs size (other_side side) xs))
    (all_same (FitsSigned w16) x (upward side (pos size)) (fits size side below))
    (all_fit size (other_side side) xs below)

pub sound_back : (size : ℕ) (intervals : List ℕ) → size < 2 ^ 15 → samples_of (bytes_of (sound size intervals))
    ≡ sound size intervals
sound_back size intervals below =
    read_back (sound size intervals) (fits size Low below, all_fit size High intervals below)
