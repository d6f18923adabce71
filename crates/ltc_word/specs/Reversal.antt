-- Words that are read from the tape's end: the same 80 bits in the other order of time, and the sync
-- word at the end of either.
use Rattle.std.specs.Prelude.{◌≡◌, ℕ, ◌+◌, ◌<◌, Bool, ◌==◌}
use Rattle.std.specs.Int.{bit_at, reverse_bits_onto}
use Rattle.tc_bits.specs.Register.{field, number_in}
use Rattle.ltc_word.specs.declared.places.TheConstants as places

-- the lowest 80 bits, the last one first
abbrev pub reversed_bits : ℕ → ℕ
reversed_bits bits = reverse_bits_onto 80 bits 0

-- whether bits 64 to 79 are the sync word
abbrev pub ends_in_sync : ℕ → Bool
ends_in_sync bits = field bits places.SYNC.first places.SYNC.width == places.SYNC_PATTERN

-- bits 64 to 79 are the sync word
abbrev pub EndsInSync : ℕ → Type 0
EndsInSync bits = number_in places.SYNC bits ≡ places.SYNC_PATTERN

-- twelve ones in a row, from bit i on
abbrev pub HasTwelveOnes : ℕ → ℕ → Type 0
HasTwelveOnes bits i = (k : ℕ) → k < 12 → bit_at bits (i + k) ≡ 1
