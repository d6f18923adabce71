-- Recordings that keep a profile's tolerance: pieces of chains, cut anywhere, also inside a cell.
use Rattle.std.specs.Prelude.{ℕ, ◌+◌, cond, ◌&&◌, nat_le, List, [], ◌∷◌, length, drop, None}
use Rattle.biphase.specs.declared.profile.Profile.{Profile}
use Rattle.biphase.specs.declared.cell.Cell.{Cell}
use Rattle.biphase.specs.Chain.{intervals_of, flat, Begins, IsChain}
use Rattle.cell_tracker.specs.Stretch.{Stretch}

-- the list is what stands in the intervals of the chain from the place `cut` on, for as long as it goes
pub record IsPiece (profile : Profile) (intervals : List ℕ) (cells : List Cell) (cut : ℕ) : Type 0 where
  pub chain : IsChain profile cells
  pub part : Begins intervals (drop cut (flat cells))

-- those of the cells, the first of which begins at the place `at`, that lie wholly in the places from `low` up to
-- `high`
abbrev pub cells_between : ℕ → ℕ → ℕ → List Cell → List Cell
cells_between low high at [] = []
cells_between low high at (cell ∷ cells) =
    let end = at + length (intervals_of cell) in
    let more = cells_between low high end cells in
    cond (nat_le low at && nat_le end high) (cell ∷ more) more

-- the cells of a chain that lie wholly in a piece of it, which begins at the place `cut`, and begin at the piece's
-- place `from` or later
abbrev pub cells_from : List Cell → ℕ → List ℕ → ℕ → List Cell
cells_from cells cut intervals from = cells_between (cut + from) (cut + length intervals) 0 cells

-- the stretch at the lock of a piece: all cells that lie wholly in it from there on, and no break
abbrev pub stretch_of_piece : List Cell → ℕ → List ℕ → ℕ → Stretch
stretch_of_piece cells cut intervals lock =
    record { lock = lock; cells = cells_from cells cut intervals lock; broken_at = None }
