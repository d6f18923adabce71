-- The cells of a word as a table.
use Rattle.std.specs.Prelude.{ℕ, ◌^◌, ◌<◌, ◌≤◌, List, get_or}

-- the light of each of the 90 cells is at most 2^24
abbrev pub AreCells : List ℕ → Type 0
AreCells cells = (bit : ℕ) → bit < 90 → get_or cells bit 0 ≤ 2 ^ 24
