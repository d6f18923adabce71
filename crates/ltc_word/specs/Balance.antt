-- Balanced bits (SMPTE 12M, the polarity correction of the linear time code word).
use Rattle.std.specs.Prelude.{◌≡◌, ℕ, ◌-◌, ◌%◌, count_ones}

-- how many of the 80 bits are 0
abbrev pub zeros : ℕ → ℕ
zeros bits = 80 - count_ones bits

-- an even number of the 80 bits is 0
abbrev pub IsBalanced : ℕ → Type 0
IsBalanced bits = zeros bits % 2 ≡ 0
