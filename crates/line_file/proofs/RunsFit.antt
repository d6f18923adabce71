-- A run of some cells of a line lasts a tick or more, and fits two bytes.
use Rattle.std.proofs.Common.{ℕ, ◌*◌, ◌<◌, ◌≤◌, List, [], ◌∷◌, arith}
use Rattle.std.specs.Int.{abs_diff}
use Rattle.std.proofs.lemmas.Nat.{mul-le}
use Rattle.vitc_reader.specs.Runs.{AreCells, IsLineLength, StandFor, total}
use Rattle.line_file.specs.Grammar.{AreRuns}

-- k cells of n ticks, 90 at most, last n ticks or more, and not more than 90 n
cells_last : (n k : ℕ) → 1 ≤ k → k ≤ 90 → (n ≤ k * n) × (k * n ≤ 90 * n)
cells_last n k least most =
    let one : 1 * n ≤ k * n = mul-le 1 n k n least (omega arith) in
    (omega (arith, one), mul-le k n 90 n most (omega arith))

run_fits : (n r last : ℕ) → IsLineLength n → n ≤ last → last ≤ 90 * n → 4 * abs_diff (115 * r) last ≤ n → (1 ≤ r)
    × (r < 65536)
run_fits n r last range least most near =
    let shortest = range.0 in
    let longest = range.1 in
    (omega (arith, shortest, longest, least, most, near), omega (arith, shortest, longest, least, most, near))

runs_fit : (n : ℕ) (runs cells : List ℕ) → IsLineLength n → AreCells n runs cells → total cells ≤ 90 → AreRuns runs
runs_fit n [] [] range are few = tt
runs_fit n [] (k ∷ cells) range are few = absurd are
runs_fit n (r ∷ runs) [] range are few = absurd are
runs_fit n (r ∷ runs) (k ∷ cells) range are few =
    let least = are.0.0 in
    let last = cells_last n k least (omega (arith, few)) in
    let fits = run_fits n r (k * n) range last.0 last.1 are.0.1 in
    (fits.0, fits.1, runs_fit n runs cells range are.1 (omega (arith, few)))

pub stand_for_fits : (n bits : ℕ) (runs : List ℕ) → IsLineLength n → StandFor n runs bits → AreRuns runs
stand_for_fits n bits runs range stand = runs_fit n runs stand.0 range stand.1 stand.2
