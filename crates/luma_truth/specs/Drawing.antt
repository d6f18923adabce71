-- A clean drawing of a word in a row of gray pixels. Its places are counted in 10,240ths of a pixel from where the row
-- begins: 640ths of the sixteenths in which the places of words are counted.
use Rattle.std.specs.Prelude.{◌≡◌, ℕ, ◌+◌, ◌-◌, ◌*◌, ◌/◌, ◌%◌, ◌^◌, ◌<◌, ◌≤◌, ◌==◌, min, max, cond, Bool, true, false}
use Rattle.std.specs.Prelude.{List, length, get_or, map}
use Rattle.std.specs.List.{range_with_len}
use Rattle.luma_row.specs.Choice.{sum_of}

-- A word of 90 bits, bit 0 the lowest; where its first cell begins, and how wide each cell is; the level of a 0, and by
-- how many levels a 1 is lighter; and by how many halves of a level a pixel may differ from what it covers.
pub record Drawing : Type 0 where
  pub word : ℕ
  pub begin : ℕ
  pub cell : ℕ
  pub dark : ℕ
  pub swing : ℕ
  pub noise : ℕ

-- a bit of a word
abbrev pub has_bit : ℕ → ℕ → Bool
has_bit word bit = word / 2 ^ bit % 2 == 1

-- where a cell begins: the one before it ends there
abbrev pub edge : Drawing → ℕ → ℕ
edge drawing bit = drawing.begin + drawing.cell * bit

-- a place, brought into a pixel
abbrev pub held : ℕ → ℕ → ℕ
held pixel place = min (max place (10240 * pixel)) (10240 * pixel + 10240)

-- how much of a pixel is covered by a cell
unfoldable pub share : Drawing → ℕ → ℕ → ℕ
share drawing pixel bit = held pixel (edge drawing (bit + 1)) - held pixel (edge drawing bit)

-- how much of a pixel is covered by a cell that is light
abbrev pub lit : Drawing → ℕ → ℕ → ℕ
lit drawing pixel bit = cond (has_bit drawing.word bit) (share drawing pixel bit) 0

-- the light that a pixel covers: all is dark but the cells of 1s
unfoldable pub pixel_light : Drawing → ℕ → ℕ
pixel_light drawing pixel = 10240 * drawing.dark + drawing.swing * sum_of 90 (lit drawing pixel)

-- The drawing fits a row of this many pixels: the word has its sync pairs, its levels are 12 or more apart and levels of
-- pixels, its cells are a 96th of the row within 5 percent, and it lies in the row.
pub record FitsARow (drawing : Drawing) (width : ℕ) : Type 0 where
  pub bits : drawing.word < 2 ^ 90
  pub ones : (pair : ℕ) → pair < 9 → has_bit drawing.word (10 * pair) ≡ true
  pub zeros : (pair : ℕ) → pair < 9 → has_bit drawing.word (10 * pair + 1) ≡ false
  pub levels : 12 ≤ drawing.swing
  pub white : drawing.dark + drawing.swing ≤ 255
  pub narrow : 95 * (10240 * width) ≤ 9600 * drawing.cell
  pub wide : 9600 * drawing.cell ≤ 105 * (10240 * width)
  pub within : edge drawing 90 ≤ 10240 * width

-- the row is this drawing: each pixel is the mean of what it covers, but for the noise
pub record IsDrawn (drawing : Drawing) (row : List ℕ) : Type 0 where
  pub of_row : FitsARow drawing (length row)
  pub least : (pixel : ℕ) → pixel < length row
      → pixel_light drawing pixel ≤ 10240 * get_or row pixel 0 + 5120 * drawing.noise
  pub most : (pixel : ℕ) → pixel < length row
      → 10240 * get_or row pixel 0 ≤ pixel_light drawing pixel + 5120 * drawing.noise

-- a row of this many pixels, each the mean of what it covers, rounded to the nearest level
abbrev pub rounded : Drawing → ℕ → List ℕ
rounded drawing width = map (λ pixel. (pixel_light drawing pixel + 5120) / 10240) (range_with_len 0 width)
