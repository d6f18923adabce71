-- The numbers that place a word in a row, each told from its neighbours: light and edges, distances and starts, moves.
use Rattle.std.proofs.Common.{◌≡◌, ℕ, ◌+◌, ◌^◌, true, false, [], ◌∷◌, ◌++◌, replicate, refl}
use Rattle.luma_row.specs.declared.place.Place.{Place}
use Rattle.luma_row.specs.Choice.{sum_of}
use Rattle.luma_row.specs.Climb.{halved, neighbour}
use Rattle.luma_row.specs.Coarse.{fall_at, pixel_of, step_to}
use Rattle.luma_row.specs.Earliest.{back, falls, falls_enough}
use Rattle.luma_row.specs.Edges.{is_falling, is_in_reach, is_light, nine_cells, swings_enough}
use Rattle.luma_row.specs.Light.{darkest, fall, light, lightest}
use Rattle.luma_row.specs.Place.{eighth, fits, pair_fall, score}
use Rattle.luma_row.specs.Row.{has_contrast}
use Rattle.luma_row.specs.Width.{earliest, start, starts}

abbrev place : ℕ → ℕ → Place
place first last = record { first = first; last = last }

-- ---- light

darkest_of : darkest (200 ∷ 7 ∷ 9 ∷ []) ≡ 7
darkest_of = refl

lightest_of : lightest (200 ∷ 7 ∷ 209 ∷ []) ≡ 209
lightest_of = refl

-- a whole pixel is sixteen sixteenths of its level, and behind the row all is dark
part_of_a_pixel : light (10 ∷ 3 ∷ []) 21 ≡ 175
unfolding light
part_of_a_pixel = refl

behind_the_row : light (10 ∷ 3 ∷ []) 900 ≡ 208
unfolding light
behind_the_row = refl

falls_by : fall (10 ∷ 3 ∷ []) 0 16 32 ≡ 2 ^ 25 + 112
unfolding fall light
falls_by = refl

eight_levels : has_contrast (10 ∷ 18 ∷ []) ≡ true
eight_levels = refl

seven_levels : has_contrast (10 ∷ 17 ∷ []) ≡ false
seven_levels = refl

-- ---- edges

-- as far from the darkest as from the lightest
the_middle_is_light : is_light (0 ∷ 10 ∷ 5 ∷ 4 ∷ []) 2 ≡ true
the_middle_is_light = refl

below_the_middle : is_light (0 ∷ 10 ∷ 5 ∷ 4 ∷ []) 3 ≡ false
below_the_middle = refl

falls_there : is_falling (0 ∷ 10 ∷ 5 ∷ 4 ∷ []) 3 ≡ true
falls_there = refl

rises_there : is_falling (0 ∷ 10 ∷ 5 ∷ 4 ∷ []) 1 ≡ false
rises_there = refl

begins_dark : is_falling (0 ∷ 10 ∷ []) 0 ≡ false
begins_dark = refl

nine_of_720 : nine_cells 720 ≡ 67
nine_of_720 = refl

nine_of_4096 : nine_cells 4_096 ≡ 384
nine_of_4096 = refl

narrow : is_in_reach 720 (place 0 9_088) ≡ true
narrow = refl

too_narrow : is_in_reach 720 (place 0 9_087) ≡ false
too_narrow = refl

wide : is_in_reach 720 (place 0 10_112) ≡ true
wide = refl

too_wide : is_in_reach 720 (place 0 10_113) ≡ false
too_wide = refl

-- cells of a pixel: the first pair is pixels 1 and 2, and 5 of 8 levels are five eighths
five_eighths : swings_enough (0 ∷ 5 ∷ 0 ∷ 8 ∷ []) (place 32 1_312) 0 ≡ true
unfolding light
five_eighths = refl

half_of_it : swings_enough (0 ∷ 4 ∷ 0 ∷ 8 ∷ []) (place 32 1_312) 0 ≡ false
unfolding light
half_of_it = refl

-- the second pair is pixels 11 and 12
of_the_second_pair : swings_enough (replicate 11 0 ++ 5 ∷ 0 ∷ 8 ∷ []) (place 32 1_312) 1 ≡ true
unfolding light
of_the_second_pair = refl

-- ---- places: cells of a pixel

word_begins : eighth (place 32 1_312) 0 ≡ 16
word_begins = refl

second_pair_ends : eighth (place 32 1_312) 88 ≡ 192
second_pair_ends = refl

first_pair : pair_fall (0 ∷ 5 ∷ 0 ∷ 8 ∷ []) (place 32 1_312) 0 ≡ 2 ^ 25 + 80
unfolding fall light
first_pair = refl

second_pair : pair_fall (replicate 11 0 ++ 5 ∷ 1 ∷ []) (place 32 1_312) 1 ≡ 2 ^ 25 + 64
unfolding fall light
second_pair = refl

nine_together : falls (0 ∷ 5 ∷ 0 ∷ []) (place 32 1_312) ≡ 80
unfolding score sum_of fall light
nine_together = refl

-- a word of 9,600 sixteenths from its first pair to its ninth begins a cell before the first pair ends
fits_in_front : fits 720 (place 120 9_720) ≡ true
fits_in_front = refl

begins_before : fits 720 (place 119 9_719) ≡ false
begins_before = refl

-- and ends in the row, or less than four grains behind it
fits_behind : fits 720 (place 904 10_504) ≡ true
fits_behind = refl

ends_behind : fits 720 (place 905 10_505) ≡ false
ends_behind = refl

-- ---- the coarse place

half_a_pixel : pixel_of 8 ≡ 1
half_a_pixel = refl

less_than_half : pixel_of 7 ≡ 0
less_than_half = refl

to_the_second : step_to 9_600 1 ≡ 75
to_the_second = refl

to_the_ninth : step_to 9_600 8 ≡ 600
to_the_ninth = refl

-- in a row of 96 pixels a cell is a pixel
a_cell_on_both_sides : fall_at (replicate 47 3 ++ 9 ∷ 2 ∷ replicate 47 5) 48 ≡ 2 ^ 25 + 112
unfolding fall light
a_cell_on_both_sides = refl

earliest_start : earliest 720 ≡ 114
earliest_start = refl

second_start : start 720 1 ≡ 130
second_start = refl

starts_of_9600 : starts 720 9_600 ≡ 50
starts_of_9600 = refl

-- ---- moves

stays : neighbour (place 100 900) 4 0 ≡ place 100 900
stays = refl

end_goes_back : neighbour (place 100 900) 4 1 ≡ place 100 896
end_goes_back = refl

end_goes_on : neighbour (place 100 900) 4 2 ≡ place 100 904
end_goes_on = refl

begin_goes_back : neighbour (place 100 900) 4 3 ≡ place 96 900
begin_goes_back = refl

both_go_on : neighbour (place 100 900) 4 8 ≡ place 104 904
both_go_on = refl

halved_once : halved 33 1 ≡ 16
halved_once = refl

halved_seven_times : halved 32 7 ≡ 0
halved_seven_times = refl

-- ---- the earliest place: cells of ten sixteenths

eight_cells_later : back (place 100 900) 0 ≡ place 180 980
eight_cells_later = refl

eight_cells_earlier : back (place 100 900) 16 ≡ place 20 820
eight_cells_earlier = refl

-- the pair falls by 80, which is half of a ninth of 1,440
half_of_the_mean : falls_enough (0 ∷ 5 ∷ 0 ∷ 8 ∷ []) 1_440 (place 32 1_312) 0 ≡ true
unfolding fall light
half_of_the_mean = refl

less_than_half_of_it : falls_enough (0 ∷ 5 ∷ 0 ∷ 8 ∷ []) 1_441 (place 32 1_312) 0 ≡ false
unfolding fall light
less_than_half_of_it = refl
