-- The latest boundaries of cells.
use Rattle.std.specs.Prelude.{ℕ, List, [], ◌∷◌, ◌++◌, drop, take}

-- one boundary more, and the oldest gone
abbrev pub with_tick : List ℕ → ℕ → List ℕ
with_tick ticks tick = drop 1 ticks ++ tick ∷ []

-- the latest 81 ticks of a ring of 256, which is written next at a place: its oldest 175 are left out
abbrev pub latest_of : List ℕ → ℕ → List ℕ
latest_of ring next = drop 175 (drop next ring ++ take next ring)
