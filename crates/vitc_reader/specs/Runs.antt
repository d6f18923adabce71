-- The runs of a line and the bits that they stand for. The profile of a line is this project's own: a
-- cell lasts 1/115 of the line, and a run is within a quarter of a cell of whole cells.
use Rattle.std.specs.Prelude.{◌≡◌, ℕ, ◌+◌, ◌-◌, ◌*◌, ◌/◌, ◌%◌, ◌^◌, ◌<◌, ◌≤◌, Bool, true, false, not, List, [], ◌∷◌}
use Rattle.std.specs.Prelude.{◌++◌, length}
use Rattle.std.specs.Int.{abs_diff}
use Rattle.vitc_reader.specs.declared.fault.RunFault.{RunFault}
use Rattle.vitc_reader.specs.declared.fault.RunFault.TheVariants.{Run, TooLong}

-- a line lasts from 460 to 65,535 ticks
abbrev pub IsLineLength : ℕ → Type 0
IsLineLength n = (460 ≤ n) × (n ≤ 65535)

-- a line begins and ends high, and has no more runs than can have a cell each
abbrev pub MayBeLine : List ℕ → Type 0
MayBeLine runs = (length runs % 2 ≡ 1) × (length runs ≤ 89)

-- runs that stand in bytes: two each, the most significant first
abbrev pub runs_of_bytes : List ℕ → List ℕ
runs_of_bytes (high ∷ low ∷ more) = (high * 256 + low) ∷ runs_of_bytes more
runs_of_bytes _ = []

-- on a line of n ticks a run of r ticks is k cells, to a quarter of a cell
abbrev pub IsCells : ℕ → ℕ → ℕ → Type 0
IsCells n r k = (1 ≤ k) × (4 * abs_diff (115 * r) (k * n) ≤ n)

-- each run has its number of cells
abbrev pub AreCells : ℕ → List ℕ → List ℕ → Type 0
AreCells n [] [] = Unit {0}
AreCells n [] (k ∷ cells) = ⊥
AreCells n (r ∷ runs) [] = ⊥
AreCells n (r ∷ runs) (k ∷ cells) = IsCells n r k × AreCells n runs cells

-- the bits of k cells of one level: all of them 1 where it is high, and 0 where it is low
abbrev pub bits_of_run : Bool → ℕ → ℕ
bits_of_run true k = 2 ^ k - 1
bits_of_run false k = 0

-- the bits of runs with these numbers of cells, bit 0 first: the level changes from run to run
abbrev pub bits_of : Bool → List ℕ → ℕ
bits_of level [] = 0
bits_of level (k ∷ cells) = bits_of_run level k + 2 ^ k * bits_of (not level) cells

-- all cells of some runs
abbrev pub total : List ℕ → ℕ
total [] = 0
total (k ∷ cells) = k + total cells

-- on a line of n ticks the runs stand for the bits: they begin high, and there are 90 cells at most
abbrev pub StandFor : ℕ → List ℕ → ℕ → Type 0
StandFor n runs bits = (cells : List ℕ) × AreCells n runs cells × (total cells ≤ 90) × (bits ≡ bits_of true cells)

-- the runs before run i have cells, and no more than a line has
pub record AreGoodUpTo (n : ℕ) (runs : List ℕ) (i : ℕ) : Type 0 where
  pub before : List ℕ
  pub run : ℕ
  pub after : List ℕ
  pub cells : List ℕ
  pub split : runs ≡ before ++ run ∷ after
  pub place : length before ≡ i
  pub read : AreCells n before cells
  pub fit : total cells ≤ 90

-- the first run that can't be taken: it is no number of cells, or it has more than are left
abbrev pub IsRunFault : ℕ → List ℕ → RunFault → Type 0
IsRunFault n runs (Run i) = (good : AreGoodUpTo n runs i) × ((k : ℕ) → ¬ IsCells n good.run k)
IsRunFault n runs (TooLong i) =
    (good : AreGoodUpTo n runs i) × (k : ℕ) × IsCells n good.run k × (90 < total good.cells + k)

-- the runs with these numbers of cells, where cell i begins at tick `i * n / 115`, rounded down
abbrev pub runs_from : ℕ → ℕ → List ℕ → List ℕ
runs_from n at [] = []
runs_from n at (k ∷ cells) = ((at + k) * n / 115 - at * n / 115) ∷ runs_from n (at + k) cells

-- each run has a cell or more
abbrev pub HaveCells : List ℕ → Type 0
HaveCells [] = Unit {0}
HaveCells (k ∷ cells) = (1 ≤ k) × HaveCells cells

-- the runs that a line of n ticks with these bits has, up to its last high one
abbrev pub AreRunsOf : ℕ → ℕ → List ℕ → Type 0
AreRunsOf n bits runs = (cells : List ℕ) × HaveCells cells × (length cells % 2 ≡ 1) × (bits ≡ bits_of true cells)
    × (runs ≡ runs_from n 0 cells)
