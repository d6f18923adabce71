-- The numbers by which a row counts and its cells say bits, each told from its neighbours.
use Rattle.std.proofs.Common.{◌≡◌, ℕ, ◌+◌, ◌^◌, ℤ, pos, neg_ℤ, true, false, List, [], ◌∷◌, ◌++◌, replicate, refl}
use Rattle.std.specs.List.{flat_map}
use Rattle.luma_row.specs.declared.levels.Levels.{Levels}
use Rattle.luma_row.specs.declared.place.Place.{Place}
use Rattle.luma_row.specs.Cells.{cell, counts, stands_out, standing_out, swing}
use Rattle.luma_row.specs.Choice.{all_of, any_of, sum_of}
use Rattle.luma_row.specs.Heights.{from, height, pair_before, smoothed, to}
use Rattle.luma_row.specs.Levels.{contradict, is_clear, is_firm, is_one, joined, last_bits, number_of, says_bits}
use Rattle.luma_row.specs.Light.{light}

abbrev place : ℕ → ℕ → Place
place first last = record { first = first; last = last }

-- ---- cells: of a pixel, from the middle of pixel 1 to that of pixel 2

-- six eighths, and beyond the darkest pixel
six_eighths : cell (1 ∷ 5 ∷ 3 ∷ 8 ∷ []) (place 40 1_320) 0 ≡ 36
unfolding light
six_eighths = refl

the_next_cell : cell (1 ∷ 5 ∷ 3 ∷ 8 ∷ []) (place 40 1_320) 1 ≡ 54
unfolding light
the_next_cell = refl

-- ---- a row counts

-- the cells of a word with nothing but the sync pairs, whose ones have this light
abbrev with_pairs : List ℕ → List ℕ
with_pairs lights = flat_map (λ light. light ∷ replicate 9 0) lights

-- six levels over six eighths of 16 sixteenths are 72
six_levels : counts (place 32 1_312) (with_pairs (replicate 9 72)) ≡ true
unfolding swing sum_of standing_out
six_levels = refl

less_than_six : counts (place 32 1_312) (with_pairs (71 ∷ replicate 8 72)) ≡ false
unfolding swing sum_of standing_out
less_than_six = refl

seven_stand_out : counts (place 32 1_312) (with_pairs (0 ∷ 0 ∷ replicate 7 100)) ≡ true
unfolding swing sum_of standing_out
seven_stand_out = refl

six_stand_out : counts (place 32 1_312) (with_pairs (0 ∷ 0 ∷ 0 ∷ replicate 6 120)) ≡ false
unfolding swing sum_of standing_out
six_stand_out = refl

-- 8 is an eighth of the mean of 576
an_eighth : stands_out (with_pairs (8 ∷ replicate 8 71)) 0 ≡ 1
unfolding swing sum_of
an_eighth = refl

less_than_an_eighth : stands_out (with_pairs (7 ∷ replicate 8 71)) 0 ≡ 0
unfolding swing sum_of
less_than_an_eighth = refl

-- ---- heights

-- the middles of the pairs rise by 20 from each to the next
abbrev rising : List ℕ
rising = with_pairs (0 ∷ 20 ∷ 40 ∷ 60 ∷ 80 ∷ 100 ∷ 120 ∷ 140 ∷ 160 ∷ [])

first_stands_beside_itself : smoothed rising 0 ≡ 20
first_stands_beside_itself = refl

between_its_neighbours : smoothed rising 3 ≡ 240
between_its_neighbours = refl

last_stands_beside_itself : smoothed rising 8 ≡ 620
last_stands_beside_itself = refl

before_its_middle : pair_before 10 ≡ 0
before_its_middle = refl

behind_its_middle : pair_before 11 ≡ 1
behind_its_middle = refl

behind_the_last : pair_before 89 ≡ 7
behind_the_last = refl

middle_before : from 11 ≡ 21
middle_before = refl

middle_behind : to 11 ≡ 41
middle_behind = refl

-- the 1 of the third pair is a half of a cell before its middle: 160 * 40 - (1 * 80 + 19 * 160)
of_the_third_pair : height rising 20 ≡ pos 3_280
unfolding height
of_the_third_pair = refl

-- a 0 is below: a whole cell behind that
of_a_zero : height rising 22 ≡ neg_ℤ (pos 3_440)
unfolding height
of_a_zero = refl

-- before the first middle and behind the last the threshold goes on straight
before_the_first : height rising 0 ≡ neg_ℤ (pos 340)
unfolding height
before_the_first = refl

behind_the_last_pair : height rising 89 ≡ neg_ℤ (pos 13_420)
unfolding height
behind_the_last_pair = refl

-- ---- bits

-- a row of a mean swing of 1, with these heights of its first bits
abbrev levels : List ℤ → Levels
levels heights = record { swing = 9; heights = heights }

above : is_one (levels (pos 1 ∷ [])) 0 ≡ true
above = refl

on_the_threshold : is_one (levels (pos 0 ∷ [])) 0 ≡ false
on_the_threshold = refl

clear : is_clear (levels (pos 10 ∷ [])) 0 ≡ true
clear = refl

clear_below : is_clear (levels (neg_ℤ (pos 10) ∷ [])) 0 ≡ true
clear_below = refl

not_clear : is_clear (levels (pos 9 ∷ [])) 0 ≡ false
not_clear = refl

firm : is_firm (levels (pos 40 ∷ [])) 0 ≡ true
firm = refl

not_firm : is_firm (levels (pos 39 ∷ [])) 0 ≡ false
not_firm = refl

-- a bit has to be firm in both rows
opposite : contradict (levels (pos 0 ∷ pos 40 ∷ [])) (levels (pos 0 ∷ neg_ℤ (pos 40) ∷ [])) ≡ true
unfolding any_of
opposite = refl

not_firm_in_both : contradict (levels (pos 0 ∷ pos 40 ∷ [])) (levels (pos 0 ∷ neg_ℤ (pos 39) ∷ [])) ≡ false
unfolding any_of
not_firm_in_both = refl

the_same : contradict (levels (pos 40 ∷ [])) (levels (pos 40 ∷ [])) ≡ false
unfolding any_of
the_same = refl

-- two rows as one: the swings and the heights are added
together : is_clear (joined (levels (pos 5 ∷ [])) (levels (pos 15 ∷ []))) 0 ≡ true
together = refl

not_together : is_clear (joined (levels (pos 4 ∷ [])) (levels (pos 15 ∷ []))) 0 ≡ false
not_together = refl

-- bit 0 is the lowest, and bit 89 the highest
abbrev said : ℤ → ℤ → Levels
said first last = levels (first ∷ neg_ℤ (pos 40) ∷ pos 40 ∷ replicate 86 (neg_ℤ (pos 40)) ++ last ∷ [])

five : number_of (said (pos 40) (neg_ℤ (pos 40))) ≡ 5
unfolding last_bits
five = refl

highest : number_of (said (pos 40) (pos 40)) ≡ 2 ^ 89 + 5
unfolding last_bits
highest = refl

says : says_bits (said (pos 10) (neg_ℤ (pos 10))) ≡ true
unfolding all_of
says = refl

-- its first bit is no 1
no_sync : says_bits (said (neg_ℤ (pos 10)) (neg_ℤ (pos 10))) ≡ false
unfolding all_of
no_sync = refl

-- its last bit is not clear
not_said : says_bits (said (pos 10) (neg_ℤ (pos 9))) ≡ false
unfolding all_of
not_said = refl
