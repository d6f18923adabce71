-- The lines of a field: what its rows say, and what two of them say together.
use Rattle.std.specs.Prelude.{◌≡◌, ℕ, ◌+◌, ◌-◌, ◌*◌, ◌%◌, ◌^◌, ◌<◌, leb, Bool, not, ◌&&◌, cond, List, [], ◌∷◌, ◌++◌}
use Rattle.std.specs.Prelude.{map, take}
use Rattle.std.specs.List.{flat_map}
use Rattle.luma_row.specs.declared.levels.Levels.{Levels}
use Rattle.luma_row.specs.Levels.{contradict, joined, number_of, says_bits}
use Rattle.luma_row.specs.Width.{grain}
use Rattle.luma_field.specs.declared.found.FoundRow.{FoundRow}

-- how far two numbers are from each other
abbrev pub between : ℕ → ℕ → ℕ
between a b = (a - b) + (b - a)

-- two rows are at most 4 rows apart, and so are both ends of their words by at most 4 grains
abbrev pub are_near : ℕ → FoundRow → FoundRow → Bool
are_near width a b = leb (between a.number b.number) 4
    && leb (between a.row.place.first b.row.place.first) (4 * grain width)
    && leb (between a.row.place.last b.row.place.last) (4 * grain width)

-- two rows are near, and no bit is firm and another one in each
abbrev pub belong : ℕ → FoundRow → FoundRow → Bool
belong width a b = are_near width a b && not (contradict a.row.levels b.row.levels)

-- a line has 90 bits, of which the first is 1
abbrev pub IsLine : ℕ → Type 0
IsLine bits = (bits < 2 ^ 90) × (bits % 2 ≡ 1)

-- the line of levels that say their bits
abbrev pub line_of : Levels → List ℕ
line_of levels = cond (says_bits levels) (number_of levels ∷ []) []

-- the line that a row says alone, if it says its bits
abbrev pub line_of_row : FoundRow → List ℕ
line_of_row found = line_of found.row.levels

-- the line of two rows as one, where they belong together
unfoldable pub line_of_two : ℕ → FoundRow → FoundRow → List ℕ
line_of_two width a b = cond (belong width a b) (line_of (joined a.row.levels b.row.levels)) []

-- the line of two rows as one, given as a pair
abbrev pub line_of_pair : ℕ → FoundRow × FoundRow → List ℕ
line_of_pair width both = line_of_two width both.0 both.1

-- each two of a list, the earlier one first: the first with each behind it, and then each two of these
unfoldable pub pairs : {X : Type 0} → List X → List (X × X)
pairs [] = []
pairs (x ∷ xs) = map (λ y. (x, y)) xs ++ pairs xs

-- the lines of the rows, then those of two rows; the first 20 are written
abbrev pub lines_of : ℕ → List FoundRow → List ℕ
lines_of width rows = take 20 (flat_map line_of_row rows ++ flat_map (line_of_pair width) (pairs rows))
