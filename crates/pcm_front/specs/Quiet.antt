-- Samples with which the sound stays on its side, at the least that its threshold may be.
use Rattle.std.specs.Prelude.{◌≡◌, ℕ, ◌==◌, if◌then◌else◌, ℤ, Bool, true, ◌&&◌, int_le, List, drop, Option}
use Rattle.std.specs.List.{prefix_len}
use Rattle.std.specs.Int.{w64, trailing_zeros}
use Rattle.pcm_front.specs.declared.quiet.Band.{Band}
use Rattle.pcm_front.specs.declared.side.Side.{Side}
use Rattle.pcm_front.specs.Side.{side_of, stays}

-- a sample lies in a band
abbrev pub lies_in : Band → ℤ → Bool
lies_in band sample = int_le band.least sample && int_le sample band.most

-- with each of them the sound stays on its side, or on none
abbrev pub IsQuiet : Option Side → ℕ → Band → Type 0
IsQuiet side threshold band = (sample : ℤ) → lies_in band sample ≡ true → stays side (side_of threshold sample) ≡ true

-- how many samples from a place on lie in a band, before the first one that does not
abbrev pub run_from : Band → List ℤ → ℕ → ℕ
run_from band samples place = prefix_len (lies_in band) (drop place samples)

-- the place of the lowest bit that is set, or else the number of all bits
abbrev pub first_set : ℕ → ℕ → ℕ
first_set bits count = if bits == 0 then count else trailing_zeros w64 bits
