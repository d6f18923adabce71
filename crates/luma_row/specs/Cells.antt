-- The cells of a word at a place, and whether its row counts.
use Rattle.std.specs.Prelude.{ℕ, ◌+◌, ◌-◌, ◌*◌, leb, cond, Bool, ◌&&◌, List, map, get_or}
use Rattle.std.specs.List.{range_with_len}
use Rattle.luma_row.specs.declared.place.Place.{Place}
use Rattle.luma_row.specs.Choice.{sum_of}
use Rattle.luma_row.specs.Light.{darkest, light}
use Rattle.luma_row.specs.Place.{apart, eighth}

-- the light of the middle six eighths of a cell, beyond that of the darkest pixel: places are whole sixteenths of a
-- pixel, so one cell may be a sixteenth longer than another
abbrev pub cell : List ℕ → Place → ℕ → ℕ
cell row place bit = light row (eighth place (8 * bit + 7)) - light row (eighth place (8 * bit + 1))
    - darkest row * (eighth place (8 * bit + 7) - eighth place (8 * bit + 1))

-- the light of each of the 90 cells
abbrev pub cells_of : List ℕ → Place → List ℕ
cells_of row place = map (cell row place) (range_with_len 0 90)

-- the cells of a sync pair: its 1, and the 0 behind it
abbrev pub light_of : List ℕ → ℕ → ℕ
light_of cells pair = get_or cells (10 * pair) 0

-- the light of the 0 of a sync pair
abbrev pub dark_of : List ℕ → ℕ → ℕ
dark_of cells pair = get_or cells (10 * pair + 1) 0

-- the swing of all nine pairs
unfoldable pub swing : List ℕ → ℕ
swing cells = sum_of 9 (light_of cells) - sum_of 9 (dark_of cells)

-- 1 where the swing of a pair is an eighth of the mean of all nine, or more: it stands out
abbrev pub stands_out : List ℕ → ℕ → ℕ
stands_out cells pair = cond (leb (swing cells) (72 * (light_of cells pair - dark_of cells pair))) 1 0

-- how many pairs stand out
unfoldable pub standing_out : List ℕ → ℕ
standing_out cells = sum_of 9 (stands_out cells)

-- the row counts: the mean swing is 6 levels or more, over the middle six eighths of cells, and 7 pairs stand out
abbrev pub counts : Place → List ℕ → Bool
counts place cells = leb (81 * apart place) (160 * swing cells) && leb 7 (standing_out cells)
