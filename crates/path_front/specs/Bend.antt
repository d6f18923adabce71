-- Whether the path bends at a cell, as it does where a piece of the tape was cut out: some cells in a row become a step
-- or more longer, or shorter, than all around. Lists of cells before begin with the latest, and lists behind with the
-- next. The rule is this project's own.
use Rattle.std.specs.Prelude.{ℕ, ◌+◌, ◌-◌, ◌/◌, min, max, ltb, leb, ◌==◌, ◌&&◌, Bool, cond, List, length, drop, get_or}
use Rattle.std.specs.List.{count_by}
use Rattle.path_front.specs.declared.gate.TheConstants.{NEIGHBOURS}
use Rattle.path_front.specs.declared.measured.Measured.{Measured}

-- a cell is longer or shorter than the pace by a whole grain: a step, or, where a sample is some steps, a sample, since
-- the grid alone makes cells a sample longer or shorter
abbrev pub strays : ℕ → ℕ → Measured → Bool
strays grain pace cell = leb grain ((cell.length - pace) + (pace - cell.length))

-- of some cells at most one strays
abbrev pub keep_pace : ℕ → ℕ → List Measured → Bool
keep_pace grain pace cells = leb (count_by (strays grain pace) cells) 1

-- how many grains a cell is beyond the pace, to the longer side or to the shorter
abbrev pub beyond : ℕ → Bool → ℕ → Measured → ℕ
beyond grain longer pace cell = cond longer (cell.length - pace) (pace - cell.length) / grain

-- the middle one of five cells in a row, which are so many grains beyond the pace, is farther from it than the two
-- before it, and at least as far as the two behind it, and both beside it are beyond the pace
abbrev pub is_peak : ℕ → ℕ → ℕ → ℕ → ℕ → Bool
is_peak earlier last far next later =
    leb 1 (min last next) && ltb (max earlier last) far && leb (max next later) far

-- a cell is such a peak between the two cells before it and the two behind it, on its own side of the pace
abbrev pub peaks : ℕ → ℕ → List Measured → Measured → List Measured → Bool
peaks grain pace before cell behind =
    let far = beyond grain (ltb pace cell.length) pace in
    is_peak (far (get_or before 1 cell)) (far (get_or before 0 cell)) (far cell) (far (get_or behind 0 cell))
    (far (get_or behind 1 cell))

-- from the third cell on, on either side, the cells keep the pace, and the one between them peaks
abbrev pub bends_from : ℕ → ℕ → List Measured → Measured → List Measured → Bool
bends_from grain pace before cell behind =
    keep_pace grain pace (drop 2 before) && keep_pace grain pace (drop 2 behind) && peaks grain pace before cell behind

-- the path bends at a cell between eight others on either side, by the pace of the farthest before it
abbrev pub bends : ℕ → List Measured → Measured → List Measured → Bool
bends grain before cell behind =
    (length before == NEIGHBOURS)
    && (length behind == NEIGHBOURS)
    && bends_from grain (get_or before 7 cell).length before cell behind
