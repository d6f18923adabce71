-- The runs of a line as one list: the lowest bits of one level are a run, and behind it the level changes.
use Rattle.std.specs.Prelude.{ℕ, zero, suc, ◌/◌, ◌^◌, ◌==◌, Bool, true, false, not, List, [], ◌∷◌, if◌then◌else◌}
use Rattle.std.specs.Int.{trailing_zeros, trailing_ones, w128}
use Rattle.vitc_reader.specs.Runs.{runs_from}

-- how many of the lowest bits have this level
abbrev pub run_length : Bool → ℕ → ℕ
run_length true bits = trailing_ones w128 bits
run_length false bits = trailing_zeros w128 bits

-- the numbers of cells of the runs of bits, the lowest of which has this level: at most this many runs
unfoldable pub cells_in : ℕ → Bool → ℕ → List ℕ
cells_in zero level bits = []
cells_in (suc most) level bits =
    if bits == 0 then [] else run_length level bits ∷ cells_in most (not level) (bits / 2 ^ run_length level bits)

-- the runs that a line of n ticks with these bits has, up to its last high one
abbrev pub runs_in : ℕ → ℕ → List ℕ
runs_in n bits = runs_from n 0 (cells_in 90 true bits)
