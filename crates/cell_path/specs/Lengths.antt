-- Lengths of cells, in steps, by their places in a list.
use Rattle.std.specs.Prelude.{◌≡◌, ℕ, zero, suc, ◌+◌, ◌-◌, ◌≤◌, List, [], ◌∷◌, ◌++◌, get_or}
use Rattle.cell_path.specs.declared.lengths.TheConstants.{LENGTHS}

-- the length in a place of a list of lengths
abbrev pub length_in : List ℕ → ℕ → ℕ
length_in lengths place = get_or lengths place 0

-- this many numbers from one on, each above the one before by the same step
unfoldable pub rising : ℕ → ℕ → ℕ → List ℕ
rising zero from by = []
rising (suc n) from by = from ∷ rising n (from + by) by

-- from 4 to 24 each length, to 48 each second, to 96 each fourth
unfoldable pub spelled : List ℕ
spelled = rising 21 4 1 ++ rising 12 26 2 ++ rising 12 52 4

-- the lengths in these places are by the same above those before them
abbrev pub IsEven : ℕ → ℕ → ℕ → Type 0
IsEven rise from to = (place : ℕ) → from ≤ place → place ≤ to
    → length_in LENGTHS place ≡ length_in LENGTHS (place - 1) + rise
