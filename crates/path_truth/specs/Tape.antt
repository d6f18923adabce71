-- A steady tape: cells of one length, one behind the other. Lists of cells begin with the latest.
use Rattle.std.specs.Prelude.{◌≡◌, ℕ, ◌<◌, ◌⊎◌, List, [], ◌∷◌, length}
use Rattle.cell_path.specs.declared.cell.Bit.{Bit}
use Rattle.cell_path.specs.declared.cell.Bit.TheVariants.{Zero}
use Rattle.cell_path.specs.declared.cell.Cell.{Cell}
use Rattle.cell_path.specs.declared.cell.Sign.{Sign}
use Rattle.cell_path.specs.declared.cell.Way.{Way}
use Rattle.cell_path.specs.declared.cell.Way.TheVariants.{Same, Jump}
use Rattle.cell_path.specs.declared.lengths.TheConstants.{LENGTHS}
use Rattle.cell_path.specs.Path.{sign_before, Follows}

-- each cell is as long as the one before it; the first one comes after a jump, as in each path
abbrev pub steady_way : List Cell → Way
steady_way [] = Jump
steady_way (before ∷ more) = Same

-- the cell's length stands in this place, and it follows these without a jump
pub record GoesOn (place : ℕ) (cell : Cell) (before : List Cell) : Type 0 where
  pub place_is : cell.place ≡ place
  pub way : cell.way ≡ steady_way before
  pub follows : Follows cell.way cell.place (sign_before cell.bit cell.sign) before

-- each cell goes on behind those before it
abbrev pub GoOn : ℕ → List Cell → Type 0
GoOn place [] = Unit {0}
GoOn place (cell ∷ before) = GoesOn place cell before × GoOn place before

-- one of the cells is a zero
abbrev pub HasAZero : List Cell → Type 0
HasAZero [] = ⊥
HasAZero (cell ∷ before) = (cell.bit ≡ Zero) ⊎ HasAZero before

-- the cells have one length, which stands in this place of the list, and at least one of them is a
-- zero
pub record IsSteady (place : ℕ) (tape : List Cell) : Type 0 where
  pub in_list : place < length LENGTHS
  pub cells : GoOn place tape
  pub zero : HasAZero tape

-- the tape that has these bits, the latest first, in cells of the length in this place, and ends on this side
unfoldable pub tape_of : ℕ → Sign → List Bit → List Cell
tape_of place sign [] = []
tape_of place sign (bit ∷ before) =
    let rest = tape_of place (sign_before bit sign) before in
    record { place = place; bit = bit; sign = sign; way = steady_way rest } ∷ rest
