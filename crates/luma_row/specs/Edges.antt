-- Where the light of a row falls from one pixel to the next, and the place of a word whose sync pairs fall there: in a
-- row with little noise all nine do.
use Rattle.std.specs.Prelude.{◌≡◌, ℕ, zero, suc, ◌+◌, ◌-◌, ◌*◌, ◌/◌, ◌<◌, ◌≤◌, ◌&&◌, not, leb, Bool, true, false, List}
use Rattle.std.specs.Prelude.{length, get_or}
use Rattle.luma_row.specs.declared.place.Place.{Place}
use Rattle.luma_row.specs.Cells.{cell}
use Rattle.luma_row.specs.Choice.{all_of}
use Rattle.luma_row.specs.Light.{darkest, lightest}
use Rattle.luma_row.specs.Place.{apart}
use Rattle.luma_row.specs.Width.{grain, narrowest, widest}

-- a pixel is light if it is no nearer to the darkest of its row than to the lightest
abbrev pub is_light : List ℕ → ℕ → Bool
is_light row pixel = leb (darkest row + lightest row) (2 * get_or row pixel 0)

-- where a pixel begins is a falling edge: the one before it is light, and it is dark
abbrev pub is_falling : List ℕ → ℕ → Bool
is_falling row pixel = is_light row (pixel - 1) && not (is_light row pixel)

-- the first falling edge at a pixel or behind it
pub record IsNextEdge (row : List ℕ) (from pixel : ℕ) : Type 0 where
  pub behind : from ≤ pixel
  pub within : pixel < length row
  pub falls : is_falling row pixel ≡ true
  pub first : (other : ℕ) → from ≤ other → other < pixel → is_falling row other ≡ false

-- nine cells, in whole pixels: a sync pair stands ten cells behind the one before it, and no other 1 ends in the last
-- one and a half of them
abbrev pub nine_cells : ℕ → ℕ
nine_cells width = width * 3 / 32

-- this many times to the first falling edge that stands nine cells behind the one before, or further
abbrev pub LeadsTo : List ℕ → ℕ → ℕ → ℕ → Type 0
LeadsTo row zero pixel last = last ≡ pixel
LeadsTo row (suc edges) pixel last =
    (next : ℕ) × IsNextEdge row (pixel + nine_cells (length row)) next × LeadsTo row edges next last

-- the first and the ninth pair are as far apart as the distances that are looked at, or by two grains nearer or further
abbrev pub is_in_reach : ℕ → Place → Bool
is_in_reach width place = leb (narrowest width) (apart place + 2 * grain width)
    && leb (apart place) (widest width + 2 * grain width)

-- A pair swings by five eighths of what the lightest and the darkest pixel of the row are apart, or more: over the middle
-- six eighths of its cells, which are as long as 6 in 640 of the distance from the first pair to the ninth.
abbrev pub swings_enough : List ℕ → Place → ℕ → Bool
swings_enough row place pair = leb (3 * ((lightest row - darkest row) * apart place))
    (512 * (cell row place (10 * pair) - cell row place (10 * pair + 1)))

-- the first pair of a place stands at the first falling edge of the row, and the ninth at the one to which it leads
pub record LiesBetween (row : List ℕ) (place : Place) : Type 0 where
  pub begin : ℕ
  pub end : ℕ
  pub first_edge : IsNextEdge row 0 begin
  pub last_edge : LeadsTo row 8 begin end
  pub first : place.first ≡ 16 * begin
  pub last : place.last ≡ 16 * end

-- a place is sharp: its pairs stand at these edges, and each of them swings
pub record IsSharp (row : List ℕ) (place : Place) : Type 0 where
  pub edges : LiesBetween row place
  pub reach : is_in_reach (length row) place ≡ true
  pub swings : all_of 9 (swings_enough row place) ≡ true
