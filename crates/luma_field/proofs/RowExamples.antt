-- The numbers by which two rows of a field belong together, each told from its neighbours: rows of 720 pixels, whose grain
-- is 16 sixteenths of a pixel.
use Rattle.std.proofs.Common.{◌≡◌, ℕ, ℤ, pos, neg_ℤ, true, false, [], ◌∷◌, refl}
use Rattle.std.specs.Prelude.{Some, None}
use Rattle.luma_row.specs.declared.levels.Levels.{Levels}
use Rattle.luma_row.specs.declared.row.CodeRow.{CodeRow}
use Rattle.luma_row.specs.Choice.{any_of}
use Rattle.luma_field.specs.declared.found.FoundRow.{FoundRow}
use Rattle.luma_field.specs.Field.{are_near, belong, pairs}
use Rattle.luma_field.specs.Rows.{found_from}

-- a mean swing of 1, and the height of bit 0
abbrev levels : ℤ → Levels
levels height = record { swing = 9; heights = height ∷ [] }

abbrev code : ℕ → ℕ → ℤ → CodeRow
code first last height = record { place = record { first = first; last = last }; levels = levels height }

abbrev row : ℕ → ℕ → ℕ → FoundRow
row number first last = record { number = number; row = code first last (pos 40) }

four_rows_apart : are_near 720 (row 3 200 9_800) (row 7 200 9_800) ≡ true
four_rows_apart = refl

four_rows_before : are_near 720 (row 7 200 9_800) (row 3 200 9_800) ≡ true
four_rows_before = refl

five_rows_apart : are_near 720 (row 3 200 9_800) (row 8 200 9_800) ≡ false
five_rows_apart = refl

first_by_four_grains : are_near 720 (row 3 200 9_800) (row 4 264 9_800) ≡ true
first_by_four_grains = refl

first_by_more : are_near 720 (row 3 200 9_800) (row 4 265 9_800) ≡ false
first_by_more = refl

last_by_four_grains : are_near 720 (row 3 200 9_800) (row 4 200 9_736) ≡ true
last_by_four_grains = refl

last_by_more : are_near 720 (row 3 200 9_800) (row 4 200 9_735) ≡ false
last_by_more = refl

say_the_same : belong 720 (row 3 200 9_800) (row 4 200 9_800) ≡ true
unfolding any_of
say_the_same = refl

-- a bit is firm in both, and another one in each
contradict_each_other : belong 720 (row 3 200 9_800)
    (record { number = 4; row = code 200 9_800 (neg_ℤ (pos 40)) }) ≡ false
unfolding any_of
contradict_each_other = refl

-- each two, the earlier one first
of_three : pairs {X = ℕ} (1 ∷ 2 ∷ 3 ∷ []) ≡ (1, 2) ∷ (1, 3) ∷ (2, 3) ∷ []
unfolding pairs
of_three = refl

-- the rows with code keep their numbers
numbers_stay : found_from 18 (None ∷ Some (code 200 9_800 (pos 40)) ∷ None ∷ Some (code 201 9_801 (pos 40)) ∷ [])
    ≡ row 19 200 9_800 ∷ row 21 201 9_801 ∷ []
unfolding found_from
numbers_stay = refl
