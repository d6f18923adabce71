-- What holds of bytes as numbers, for the proofs of the crates above. No promise speaks of it.
use Rattle.std.proofs.Common.{Fits, w8, ℕ, zero, suc, List, [], ◌∷◌, drop, get_or}
use Rattle.std.proofs.Math.Facts.{Fits-lt-pow}
use Rattle.tc_io.specs.Bytes.{AreBytes}

-- a list is one of bytes where each place has one
pub are_bytes : (bytes : List ℕ) → ((i : ℕ) → Fits w8 (get_or bytes i 0)) → AreBytes bytes
are_bytes [] fits = tt
are_bytes (byte ∷ more) fits = (Fits-lt-pow (fits 0), are_bytes more (λ i. fits (suc i)))

-- and so is what stands behind some of them
pub bytes_behind : (n : ℕ) (bytes : List ℕ) → AreBytes bytes → AreBytes (drop n bytes)
bytes_behind zero bytes are = are
bytes_behind (suc n) [] are = are
bytes_behind (suc n) (byte ∷ more) are = bytes_behind n more are.1
