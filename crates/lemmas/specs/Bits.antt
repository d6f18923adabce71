-- The lowest bits of a number, and the bytes of a signed one.
use Rattle.std.proofs.Common.{◌≡◌, ℕ, suc, ◌+◌, ◌/◌, ◌%◌, ◌^◌, ◌<◌, ℤ, pos, negsuc, sym, arith}
use Rattle.std.specs.Prelude.{FitsSigned}
use Rattle.std.specs.Int.{bit_at, cast_unsigned, w16}
use Rattle.std.proofs.lemmas.Nat.{shr-shr, shr_split}
use Rattle.std.proofs.lemmas.Nat.Bits.{bit_at_cat_low}

-- a bit of the half is the next bit
pub halved : (n i : ℕ) → n / 2 / 2 ^ i ≡ n / 2 ^ suc i
halved n i = let e : 1 + i ≡ suc i = omega arith in rw (← e) (shr-shr n 1 i)

-- the lowest k bits are those of the number
pub bit_at_low : (n k i : ℕ) → i < k → bit_at (n % 2 ^ k) i ≡ bit_at n i
bit_at_low n k i lt = let h = bit_at_cat_low (n / 2 ^ k) k (n % 2 ^ k) i lt in sym (rw (shr_split n k) at h)

-- a number of 16 bits with its sign has two bytes
pub in_two_bytes : (n : ℤ) → FitsSigned w16 n → cast_unsigned w16 n < 256 ^ 2
in_two_bytes (pos n) fits = omega (arith, fits.sfits)
in_two_bytes (negsuc n) fits = omega arith
