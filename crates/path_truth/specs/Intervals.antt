-- The intervals of a tape. Lists of cells begin with the latest, and lists of intervals with the
-- first.
use Rattle.std.specs.Prelude.{ℕ, ◌/◌, List, [], ◌∷◌, ◌++◌}
use Rattle.cell_path.specs.declared.cell.Bit.{Bit}
use Rattle.cell_path.specs.declared.cell.Bit.TheVariants.{Zero, One}
use Rattle.cell_path.specs.declared.cell.Cell.{Cell}

-- a zero is one interval, and a one is two of half its length
abbrev pub intervals_of_bit : ℕ → Bit → List ℕ
intervals_of_bit long Zero = long ∷ []
intervals_of_bit long One = long / 2 ∷ long / 2 ∷ []

-- the intervals of a tape whose cells are so long
unfoldable pub intervals_of_tape : ℕ → List Cell → List ℕ
intervals_of_tape long [] = []
intervals_of_tape long (cell ∷ before) = intervals_of_tape long before ++ intervals_of_bit long cell.bit
