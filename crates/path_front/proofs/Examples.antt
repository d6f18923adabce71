-- Where rows of lengths bend, each row as it comes.
use Rattle.std.proofs.Common.{◌≡◌, ℕ, ◌+◌, pos, Bool, true, false, List, [], ◌∷◌, ◌++◌, map, reverse, length, get_or, take}
use Rattle.std.proofs.Common.{drop, replicate, refl}
use Rattle.std.specs.List.{filter, range_with_len}
use Rattle.cell_path.specs.declared.cell.Bit.TheVariants.{Zero}
use Rattle.path_front.specs.declared.measured.Half.{Half}
use Rattle.path_front.specs.declared.measured.Measured.{Measured}
use Rattle.path_front.specs.Bend.{bends}

abbrev half : Half
half = record { sum = pos 0; squares = 0 }

abbrev cell : ℕ → Measured
cell steps = record { span = steps; length = steps; bit = Zero; jumps = false; first = half; second = half }

abbrev bends_at : List ℕ → ℕ → Bool
bends_at row place =
    bends 1 (take 8 (reverse (map cell (take place row)))) (cell (get_or row place 0))
    (take 8 (map cell (drop (place + 1) row)))

-- the places at which a row bends, from 0 on
abbrev places : List ℕ → List ℕ
places row = filter (bends_at row) (range_with_len 0 (length row))

abbrev six : List ℕ
six = replicate 6 20

abbrev seven : List ℕ
seven = replicate 7 20

abbrev eight : List ℕ
eight = replicate 8 20

-- ---- what bends

shorter : places (eight ++ 19 ∷ 18 ∷ 19 ∷ eight) ≡ 9 ∷ []
shorter = refl

longer : places (eight ++ 21 ∷ 22 ∷ 21 ∷ eight) ≡ 9 ∷ []
longer = refl

-- the farthest only
farthest : places (eight ++ 19 ∷ 18 ∷ 17 ∷ 18 ∷ 19 ∷ eight) ≡ 10 ∷ []
farthest = refl

farthest_later : places (eight ++ 19 ∷ 18 ∷ 19 ∷ 17 ∷ 19 ∷ eight) ≡ 11 ∷ []
farthest_later = refl

-- the first of two
first : places (eight ++ 21 ∷ 22 ∷ 22 ∷ 21 ∷ eight) ≡ 9 ∷ []
first = refl

first_apart : places (eight ++ 21 ∷ 22 ∷ 21 ∷ 22 ∷ 21 ∷ eight) ≡ 9 ∷ []
first_apart = refl

-- ---- what does not

steady : places (eight ++ 20 ∷ eight) ≡ []
steady = refl

-- by one step
one_step : places (eight ++ 19 ∷ 19 ∷ eight) ≡ []
one_step = refl

one_step_of_three : places (eight ++ 19 ∷ 19 ∷ 19 ∷ eight) ≡ []
one_step_of_three = refl

-- both cells beside it are beyond the pace, to the same side
not_before : places (eight ++ 18 ∷ 19 ∷ eight) ≡ []
not_before = refl

not_behind : places (eight ++ 19 ∷ 18 ∷ eight) ≡ []
not_behind = refl

other_side_before : places (eight ++ 21 ∷ 18 ∷ 19 ∷ eight) ≡ []
other_side_before = refl

other_side_behind : places (eight ++ 19 ∷ 18 ∷ 21 ∷ eight) ≡ []
other_side_behind = refl

-- ---- eight cells on either side

eight_before : places (seven ++ 19 ∷ 18 ∷ 19 ∷ eight) ≡ 8 ∷ []
eight_before = refl

seven_before : places (six ++ 19 ∷ 18 ∷ 19 ∷ eight) ≡ []
seven_before = refl

eight_behind : places (eight ++ 19 ∷ 18 ∷ 19 ∷ seven) ≡ 9 ∷ []
eight_behind = refl

seven_behind : places (eight ++ 19 ∷ 18 ∷ 19 ∷ six) ≡ []
seven_behind = refl

-- ---- one stray on a side, from the third cell on

one_before : places (20 ∷ 20 ∷ 20 ∷ 21 ∷ 20 ∷ 20 ∷ 20 ∷ 19 ∷ 18 ∷ 19 ∷ eight) ≡ 8 ∷ []
one_before = refl

two_before : places (20 ∷ 20 ∷ 21 ∷ 21 ∷ 20 ∷ 20 ∷ 20 ∷ 19 ∷ 18 ∷ 19 ∷ eight) ≡ []
two_before = refl

at_both_ends_before : places (20 ∷ 21 ∷ 20 ∷ 20 ∷ 20 ∷ 19 ∷ 20 ∷ 19 ∷ 18 ∷ 19 ∷ eight) ≡ []
at_both_ends_before = refl

second_and_third_before : places (20 ∷ 20 ∷ 20 ∷ 20 ∷ 20 ∷ 19 ∷ 19 ∷ 19 ∷ 18 ∷ 19 ∷ eight) ≡ 8 ∷ []
second_and_third_before = refl

one_behind : places (eight ++ 19 ∷ 18 ∷ 19 ∷ 20 ∷ 20 ∷ 21 ∷ 20 ∷ 20 ∷ 20 ∷ 20 ∷ []) ≡ 9 ∷ []
one_behind = refl

two_behind : places (eight ++ 19 ∷ 18 ∷ 19 ∷ 20 ∷ 20 ∷ 21 ∷ 21 ∷ 20 ∷ 20 ∷ 20 ∷ []) ≡ []
two_behind = refl

at_both_ends_behind : places (eight ++ 19 ∷ 18 ∷ 19 ∷ 20 ∷ 19 ∷ 20 ∷ 20 ∷ 20 ∷ 20 ∷ 19 ∷ []) ≡ []
at_both_ends_behind = refl

second_and_third_behind : places (eight ++ 19 ∷ 18 ∷ 19 ∷ 19 ∷ 19 ∷ 20 ∷ 20 ∷ 20 ∷ 20 ∷ 20 ∷ []) ≡ 9 ∷ []
second_and_third_behind = refl

-- the pace is that of the eighth cell before
eighth_before : places (21 ∷ 20 ∷ 20 ∷ 20 ∷ 20 ∷ 20 ∷ 20 ∷ 19 ∷ 18 ∷ 19 ∷ eight) ≡ []
eighth_before = refl

ninth_before : places (21 ∷ 20 ∷ 20 ∷ 20 ∷ 20 ∷ 20 ∷ 20 ∷ 20 ∷ 19 ∷ 18 ∷ 19 ∷ eight) ≡ 9 ∷ []
ninth_before = refl

-- ---- where a sample is four steps, by whole samples

abbrev bends_by_four : List ℕ → ℕ → Bool
bends_by_four row place =
    bends 4 (take 8 (reverse (map cell (take place row)))) (cell (get_or row place 0))
    (take 8 (map cell (drop (place + 1) row)))

a_sample_longer : bends_by_four (replicate 8 16 ++ 18 ∷ 20 ∷ 18 ∷ replicate 8 16) 9 ≡ false
a_sample_longer = refl

two_samples_longer : bends_by_four (replicate 8 16 ++ 20 ∷ 24 ∷ 20 ∷ replicate 8 16) 9 ≡ true
two_samples_longer = refl

less_than_two : bends_by_four (replicate 8 16 ++ 20 ∷ 23 ∷ 20 ∷ replicate 8 16) 9 ≡ false
less_than_two = refl

less_than_one_beside : bends_by_four (replicate 8 16 ++ 19 ∷ 24 ∷ 20 ∷ replicate 8 16) 9 ≡ false
less_than_one_beside = refl

no_stray_below_a_sample : bends_by_four (16 ∷ 16 ∷ replicate 6 19 ++ 20 ∷ 24 ∷ 20 ∷ replicate 8 16) 9 ≡ true
no_stray_below_a_sample = refl

strays_of_a_sample : bends_by_four (16 ∷ 16 ∷ 20 ∷ 12 ∷ replicate 4 16 ++ 20 ∷ 24 ∷ 20 ∷ replicate 8 16) 9 ≡ false
strays_of_a_sample = refl
