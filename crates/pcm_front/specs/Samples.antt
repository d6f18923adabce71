-- Raw samples of sound: each a number of 16 bits with a sign, in two bytes, the less significant one first; one
-- channel.
use Rattle.std.specs.Prelude.{ℕ, ℤ, List, [], ◌∷◌}
use Rattle.std.specs.List.{flat_map}
use Rattle.std.specs.Int.{w16, cast_signed, cast_unsigned}
use Rattle.byteorder.specs.Endian.{little_bytes, little_number}

-- the sample in two bytes
abbrev pub sample_in : List ℕ → ℤ
sample_in bytes = cast_signed w16 (little_number 2 bytes)

-- the whole samples of bytes: what is left of an odd number of bytes is none
unfoldable pub samples_of : List ℕ → List ℤ
samples_of (low ∷ high ∷ more) = sample_in (low ∷ high ∷ []) ∷ samples_of more
samples_of (low ∷ []) = []
samples_of [] = []

-- the bytes of a sample
abbrev pub sample_bytes : ℤ → List ℕ
sample_bytes sample = little_bytes 2 (cast_unsigned w16 sample)

-- the bytes of samples, one sample after another
abbrev pub bytes_of : List ℤ → List ℕ
bytes_of samples = flat_map sample_bytes samples
