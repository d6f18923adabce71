-- What is kept of the latest steps: the sums of the sound up to each, and the numbers of each, 32 bits of them. Those
-- of n steps ago are n places back in a ring.
use Rattle.std.specs.Prelude.{◌≡◌, ℕ, ◌+◌, ◌-◌, ◌%◌, ◌<◌, List, [], length, get_or}
use Rattle.cell_path.specs.declared.cell.Sign.{Sign}
use Rattle.cell_path.specs.declared.cell.Sign.TheVariants.{Plus, Minus}

-- a ring of 128 numbers, the first four of which stand behind it once more, so that no four in a row are parted
pub record IsRing (ring : List ℕ) : Type 0 where
  pub long : length ring ≡ 132
  pub again : (step : ℕ) → step < 4 → get_or ring (128 + step) 0 ≡ get_or ring step 0

-- the place in a ring of the one that came so long ago, where the next one comes to this place
abbrev pub place_ago : ℕ → ℕ → ℕ
place_ago next ago = (next + 127 - ago) % 128

-- the sums of the sound up to each of the latest steps, in a ring, and where the next one comes
pub record SumsState : Type 0 where
  pub ring : List ℕ
  pub next : ℕ

-- the sum up to the step so long ago
abbrev pub sum_ago : SumsState → ℕ → ℕ
sum_ago sums ago = get_or sums.ring (place_ago sums.next ago) 0

-- four steps come at once
pub record IsNext (next : ℕ) : Type 0 where
  pub fours : next % 4 ≡ 0
  pub within : next < 128

-- the sums of the steps so far
pub record AreSums (sums : SumsState) : Type 0 where
  pub ring : IsRing sums.ring
  pub next : IsNext sums.next

-- what the best path of all lacks at each of the latest steps, in a ring, where the next one comes, and what is kept of
-- the sum of the sizes
pub record LacksState : Type 0 where
  pub ring : List ℕ
  pub next : ℕ
  pub sizes : ℕ

-- what it lacked so long ago
abbrev pub lack_ago : LacksState → ℕ → ℕ
lack_ago lacks ago = get_or lacks.ring (place_ago lacks.next ago) 0

-- those of the steps so far
pub record AreLacks (lacks : LacksState) : Type 0 where
  pub ring : IsRing lacks.ring
  pub next : IsNext lacks.next

-- the numbers of each length, by a sign, in a ring, and where the next one comes
pub record RowsState : Type 0 where
  pub plus : List (List ℕ)
  pub minus : List (List ℕ)
  pub next : ℕ

-- the ring of a length and a sign
abbrev pub ring_of : RowsState → ℕ → Sign → List ℕ
ring_of rows place Plus = get_or rows.plus place []
ring_of rows place Minus = get_or rows.minus place []

-- the number of the step so long ago
abbrev pub number_ago : RowsState → ℕ → ℕ → Sign → ℕ
number_ago rows ago place sign = get_or (ring_of rows place sign) (place_ago rows.next ago) 0

-- the number of one of the four steps that come next, where they have been put already
abbrev pub number_next : RowsState → ℕ → ℕ → Sign → ℕ
number_next rows step place sign = get_or (ring_of rows place sign) (rows.next + step) 0

-- the numbers of the steps so far
pub record AreRows (rows : RowsState) : Type 0 where
  pub plus : length rows.plus ≡ 45
  pub minus : length rows.minus ≡ 45
  pub rings : (place : ℕ) (sign : Sign) → place < 45 → IsRing (ring_of rows place sign)
  pub next : IsNext rows.next
