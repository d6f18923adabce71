-- The coarse place of a word: of the distances and starts that are looked at, the one whose nine sync pairs fall the
-- most
-- at whole pixels.
use Rattle.std.specs.Prelude.{◌≡◌, ℕ, ◌+◌, ◌-◌, ◌*◌, ◌/◌, List, length}
use Rattle.luma_row.specs.declared.place.Place.{Place}
use Rattle.luma_row.specs.Choice.{greatest, sum_of, IsFirstBest}
use Rattle.luma_row.specs.Light.{fall}
use Rattle.luma_row.specs.Width.{distance, distances, start, starts, ten_cells}

-- the fall where a pixel begins, over a cell on both sides
abbrev pub fall_at : List ℕ → ℕ → ℕ
fall_at row pixel = fall row (16 * pixel - ten_cells (length row) / 10) (16 * pixel)
    (16 * pixel + ten_cells (length row) / 10)

-- a place, to the nearest pixel
abbrev pub pixel_of : ℕ → ℕ
pixel_of place = (place + 8) / 16

-- the pixels from the first sync pair to another, where the ninth stands so far behind the first
abbrev pub step_to : ℕ → ℕ → ℕ
step_to apart pair = pixel_of (apart * pair / 8)

-- the fall of a sync pair
abbrev pub coarse_fall : List ℕ → ℕ → ℕ → ℕ → ℕ
coarse_fall row apart first pair = fall_at row (pixel_of first + step_to apart pair)

-- the sum of the nine falls
unfoldable pub coarse_sum : List ℕ → ℕ → ℕ → ℕ
coarse_sum row apart first = sum_of 9 (coarse_fall row apart first)

-- the sums of the starts of one distance
abbrev pub sum_at : List ℕ → ℕ → ℕ → ℕ
sum_at row apart number = coarse_sum row apart (start (length row) number)

-- the greatest of them
abbrev pub best_at : List ℕ → ℕ → ℕ
best_at row number = greatest (starts (length row) (distance (length row) number))
    (sum_at row (distance (length row) number))

-- the coarse place: of the first distance that has the greatest sum, the first start that has it
pub record IsCoarse (row : List ℕ) (sum : ℕ) (place : Place) : Type 0 where
  pub wide : ℕ
  pub early : ℕ
  pub of_distances : IsFirstBest (distances (length row)) (best_at row) wide
  pub of_starts : IsFirstBest (starts (length row) (distance (length row) wide))
      (sum_at row (distance (length row) wide)) early
  pub sum_is : sum ≡ best_at row wide
  pub first : place.first ≡ start (length row) early
  pub last : place.last ≡ start (length row) early + distance (length row) wide
