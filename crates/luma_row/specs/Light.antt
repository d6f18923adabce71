-- The light of a row of pixels up to a place. Places are counted in sixteenths of a pixel from where the row begins.
use Rattle.std.specs.Prelude.{ℕ, ◌+◌, ◌-◌, ◌*◌, ◌/◌, ◌%◌, ◌≤◌, min, max, List, length, get_or, take}
use Rattle.std.specs.List.{fold, sum}
use Rattle.luma_row.specs.declared.light.TheConstants.{EVEN}
use Rattle.luma_row.specs.declared.width.TheConstants.{MIN_WIDTH, MAX_WIDTH}

-- a row has 360 to 4,096 pixels
abbrev pub IsRow : List ℕ → Type 0
IsRow row = (MIN_WIDTH ≤ length row) × (length row ≤ MAX_WIDTH)

-- the lightest pixel of a row
abbrev pub lightest : List ℕ → ℕ
lightest row = fold max 0 row

-- the darkest pixel of a row
abbrev pub darkest : List ℕ → ℕ
darkest row = fold min 255 row

-- the light up to a place: sixteen times each whole pixel before it, and the part of the pixel that the place is in.
-- Behind the row all is dark
unfoldable pub light : List ℕ → ℕ → ℕ
light row place = 16 * sum (take (place / 16) row) + place % 16 * get_or row (place / 16) 0

-- by how much more light comes from before to a place than from there to behind it, counted from EVEN
unfoldable pub fall : List ℕ → ℕ → ℕ → ℕ → ℕ
fall row before place behind = EVEN + 2 * light row place - light row before - light row behind
