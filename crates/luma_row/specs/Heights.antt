-- How high the light of a cell stands above the threshold between 1 and 0, which follows the sync pairs.
use Rattle.std.specs.Prelude.{ℕ, ◌+◌, ◌-◌, ◌*◌, ◌/◌, min, ℤ, pos, ◌-ℤ◌, List, map, get_or}
use Rattle.std.specs.List.{range_with_len}
use Rattle.luma_row.specs.Cells.{dark_of, light_of}

-- the middle of a sync pair, twice
abbrev pub middle : List ℕ → ℕ → ℕ
middle cells pair = light_of cells pair + dark_of cells pair

-- the middles smoothed 1-2-1, eight times: the first and the last pair stand beside themselves
abbrev pub smoothed : List ℕ → ℕ → ℕ
smoothed cells pair = middle cells (pair - 1) + 2 * middle cells pair + middle cells (min (pair + 1) 8)

-- The threshold is straight from the middle of a pair, between its two bits, to that of the next, 10 cells behind it.
-- So
-- it goes on before the first pair and behind the last. In halves of a cell it stands at twice the bit, between these
-- two.
abbrev pub pair_before : ℕ → ℕ
pair_before bit = min ((2 * bit - 1) / 20) 7

-- where the middle of that pair is, in halves of a cell
abbrev pub from : ℕ → ℕ
from bit = 20 * pair_before bit + 1

-- where the middle of the next pair is, in halves of a cell
abbrev pub to : ℕ → ℕ
to bit = 20 * pair_before bit + 21

-- The height of the light above the threshold, in 160ths: the light 160 times, and the middles on both sides, which are
-- counted eight times, as often as the other end of their 20 halves of a cell is far. What is taken away outside of
-- both
-- stands on the other side.
abbrev pub above : List ℕ → ℕ → ℕ
above cells bit = 160 * get_or cells bit 0 + (2 * bit - to bit) * smoothed cells (pair_before bit)
    + (from bit - 2 * bit) * smoothed cells (pair_before bit + 1)

-- what is taken away for the threshold between the two middles
abbrev pub below : List ℕ → ℕ → ℕ
below cells bit = (to bit - 2 * bit) * smoothed cells (pair_before bit)
    + (2 * bit - from bit) * smoothed cells (pair_before bit + 1)

-- the height of a bit: how far its light is above the threshold, negative if it is below
unfoldable pub height : List ℕ → ℕ → ℤ
height cells bit = pos (above cells bit) -ℤ pos (below cells bit)

-- the heights of the 90 bits
abbrev pub heights_of : List ℕ → List ℤ
heights_of cells = map (height cells) (range_with_len 0 90)
