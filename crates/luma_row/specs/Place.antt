-- A place of a word in a row: where the 1 of the first sync pair ends, and the 1 of the ninth, 80 cells behind it.
use Rattle.std.specs.Prelude.{ℕ, ◌+◌, ◌-◌, ◌*◌, ◌/◌, leb, ltb, Bool, ◌&&◌, List}
use Rattle.luma_row.specs.declared.place.Place.{Place}
use Rattle.luma_row.specs.Choice.{sum_of}
use Rattle.luma_row.specs.Light.{fall}
use Rattle.luma_row.specs.Width.{end}

-- the distance between both
abbrev pub apart : Place → ℕ
apart place = place.last - place.first

-- where this many eighths of a cell of the word end, rounded down: the word begins a cell before the first 1 ends
abbrev pub eighth : Place → ℕ → ℕ
eighth place n = (640 * place.first + apart place * n - 8 * apart place) / 640

-- the fall of a sync pair, over a cell on both sides of where its 1 ends
abbrev pub pair_fall : List ℕ → Place → ℕ → ℕ
pair_fall row place pair =
    fall row (eighth place (80 * pair)) (eighth place (80 * pair + 8)) (eighth place (80 * pair + 16))

-- the sum of the nine falls
unfoldable pub score : List ℕ → Place → ℕ
score row place = sum_of 9 (pair_fall row place)

-- the word begins in the row, and its 90 cells end in it or less than four grains behind it
abbrev pub fits : ℕ → Place → Bool
fits width place = ltb place.first place.last && leb (apart place) (80 * place.first)
    && leb (place.first + 89 * apart place / 80) (end width)
