-- Bytes of whole samples are the bytes of these samples.
use Rattle.std.proofs.Common.{◌≡◌, ℕ, ◌+◌, ◌*◌, ◌/◌, ◌%◌, ◌<◌, ◌^◌, List, [], ◌∷◌, ◌++◌, length, refl, ap, ap₂, ◌∙◌}
use Rattle.std.proofs.Common.{arith}
use Rattle.std.specs.List.{AllByRecursion}
use Rattle.std.specs.Int.{w16}
use Rattle.std.proofs.lemmas.Int.{of_z-to_z}
use Rattle.byteorder.specs.Endian.{little_bytes, little_number}
use Rattle.pcm_front.specs.Samples.{bytes_of, sample_bytes, sample_in, samples_of}

two_bytes : (low high : ℕ) → low < 256 → high < 256 → little_bytes 2 (little_number 2 (low ∷ high ∷ [])) ≡ low ∷ high
    ∷ []
two_bytes low high least most =
    let first : (low + 256 * (high + 256 * 0)) % 256 ≡ low = omega (arith, least) in
    let second : (low + 256 * (high + 256 * 0)) / 256 % 256 ≡ high = omega (arith, least, most) in
    ap₂ (λ (a b : ℕ). a ∷ b ∷ []) first second

one_sample : (low high : ℕ) → low < 256 → high < 256 → sample_bytes (sample_in (low ∷ high ∷ [])) ≡ low ∷ high ∷ []
one_sample low high least most =
    let small : little_number 2 (low ∷ high ∷ []) < 2 ^ 16 = omega (arith, least, most) in
    ap (λ (n : ℕ). little_bytes 2 n) (of_z-to_z w16 (little_number 2 (low ∷ high ∷ [])) small)
    ∙ two_bytes low high least most

pub bytes_again : (bytes : List ℕ) → AllByRecursion (λ (byte : ℕ). byte < 256) bytes → length bytes % 2 ≡ 0
    → bytes_of (samples_of bytes) ≡ bytes
unfolding samples_of
bytes_again [] are even = refl
bytes_again (low ∷ []) are even = absurd (omega (arith, even))
bytes_again (low ∷ high ∷ more) are even =
    ap₂ (λ (a b : List ℕ). a ++ b) (one_sample low high are.0 are.1.0) (bytes_again more are.1.1 (omega (arith, even)))
