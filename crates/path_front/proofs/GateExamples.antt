-- The numbers of the gate, each told from its neighbours: cells of twenty steps, by the sums of their halves.
use Rattle.std.proofs.Common.{◌≡◌, ℕ, ◌*◌, ℤ, pos, neg_ℤ, Bool, true, false, List, [], ◌∷◌, ◌++◌, replicate, refl}
use Rattle.cell_path.specs.declared.cell.Bit.{Bit}
use Rattle.cell_path.specs.declared.cell.Bit.TheVariants.{Zero, One}
use Rattle.step_grid.specs.declared.grid.Grid.TheVariants.{Repeat, Sum}
use Rattle.path_front.specs.declared.gate.Ear.{Ear}
use Rattle.path_front.specs.declared.measured.Half.{Half}
use Rattle.path_front.specs.declared.measured.Measured.{Measured}
use Rattle.path_front.specs.Fit.{far, is_misfit, square_far, usual}
use Rattle.path_front.specs.Gate.{breaks, ear_of, refuses}
use Rattle.path_front.specs.Levels.{is_faint, level_of, mean_level, range_by}

abbrev half : ℤ → Half
half sum = record { sum = sum; squares = 0 }

abbrev cell : Bit → ℤ → ℤ → Measured
cell bit first second =
    record { span = 20; length = 20; bit = bit; jumps = false; first = half first; second = half second }

-- a zero of one size, on the side of the path: twice ten steps in each half
abbrev zero_of : ℕ → Measured
zero_of size = record {
  span = 20;
  length = 20;
  bit = Zero;
  jumps = false;
  first = record { sum = pos (20 * size); squares = 20 * (size * size) };
  second = record { sum = pos (20 * size); squares = 20 * (size * size) };
}

-- ---- the level

level : level_of (zero_of 100) ≡ 100
level = refl

down : level_of (cell Zero (pos 2_000) (pos 1_999)) ≡ 99
down = refl

below_zero : level_of (cell Zero (pos 1_000) (neg_ℤ (pos 2_000))) ≡ 0
below_zero = refl

mean : mean_level (zero_of 100 ∷ zero_of 41 ∷ []) ≡ 70
mean = refl

before_and_behind : range_by (zero_of 100 ∷ zero_of 50 ∷ []) (zero_of 30 ∷ []) ≡ record { least = 30; most = 75 }
before_and_behind = refl

none_behind : range_by (zero_of 40 ∷ []) [] ≡ record { least = 40; most = 40 }
none_behind = refl

-- ---- faint: the second half of the cell before, the first of the cell, a level of 100

abbrev is_faint_at : ℕ → Bit → Bit → ℕ → Bool
is_faint_at least before bit sum = is_faint least 100 (cell before (pos 0) (pos sum)) (cell bit (pos 0) (pos 0))

a_quarter_of_zeros : is_faint_at 0 Zero Zero 999 ≡ true
a_quarter_of_zeros = refl

no_quarter_of_zeros : is_faint_at 0 Zero Zero 1_000 ≡ false
no_quarter_of_zeros = refl

before_a_one : is_faint_at 0 Zero One 999 ≡ true
before_a_one = refl

enough_before_a_one : is_faint_at 0 Zero One 1_000 ≡ false
enough_before_a_one = refl

behind_a_one : is_faint_at 0 One Zero 999 ≡ true
behind_a_one = refl

enough_behind_a_one : is_faint_at 0 One Zero 1_000 ≡ false
enough_behind_a_one = refl

an_eighth_of_ones : is_faint_at 0 One One 499 ≡ true
an_eighth_of_ones = refl

no_eighth_of_ones : is_faint_at 0 One One 500 ≡ false
no_eighth_of_ones = refl

-- a quarter of the least threshold, between ones too
the_least : is_faint_at 250 One One 2_499 ≡ true
the_least = refl

enough : is_faint_at 250 One One 2_500 ≡ false
enough = refl

both_halves : is_faint 0 100 (cell Zero (pos 900) (pos 500)) (cell Zero (pos 500) (neg_ℤ (pos 900))) ≡ false
both_halves = refl

-- ---- fit

on_the_level : far 100 (zero_of 100).first 20 ≡ 0
on_the_level = refl

above_it : far 90 (zero_of 100).first 20 ≡ 10
above_it = refl

below_it : far 110 (zero_of 100).first 20 ≡ 10
below_it = refl

on_the_wrong_side : far 100 (half (neg_ℤ (pos 2_000))) 20 ≡ 200
on_the_wrong_side = refl

no_more_than_the_level : square_far 100 (half (neg_ℤ (pos 2_000))) 20 ≡ 10_000
no_more_than_the_level = refl

usual_of_two : usual 100 (zero_of 100 ∷ []) (zero_of 70 ∷ []) ≡ 450
usual_of_two = refl

usual_before : usual 100 (zero_of 70 ∷ []) [] ≡ 900
usual_before = refl

-- a half that lies 141 from a level of 100, and one that lies 142
two_squares : is_misfit 100 0 (cell Zero (neg_ℤ (pos 820)) (pos 2_000)) ≡ false
two_squares = refl

more_than_two : is_misfit 100 0 (cell Zero (neg_ℤ (pos 840)) (pos 2_000)) ≡ true
more_than_two = refl

second_half : is_misfit 100 0 (cell Zero (pos 2_000) (neg_ℤ (pos 840))) ≡ true
second_half = refl

-- 142² is 20,164
twelve_times_usual : is_misfit 100 14 (cell Zero (neg_ℤ (pos 840)) (pos 2_000)) ≡ false
twelve_times_usual = refl

less_than_that : is_misfit 100 13 (cell Zero (neg_ℤ (pos 840)) (pos 2_000)) ≡ true
less_than_that = refl

-- 200² is 40,000: a half on the wrong side, where a twelfth of two squares is usual
wrong_beside_noise : is_misfit 100 1_666 (cell Zero (neg_ℤ (pos 2_000)) (pos 2_000)) ≡ true
wrong_beside_noise = refl

as_wrong_as_usual : is_misfit 100 1_667 (cell Zero (neg_ℤ (pos 2_000)) (pos 2_000)) ≡ false
as_wrong_as_usual = refl

-- ---- neighbours: of eight the level counts, and of the ninth not

abbrev ear : Ear
ear = record { least = 1; grain = 1 }

abbrev eight : ℕ → List Measured
eight size = replicate 8 (zero_of size)

steady : breaks ear (eight 100) (zero_of 100) (eight 100) ≡ false
steady = refl

-- the lesser mean says what is faint, and the greater what does not fit
loud_behind : refuses ear (eight 100) (zero_of 100) (eight 1_000) ≡ false
loud_behind = refl

faint_beside_loud : refuses ear (eight 1_000) (zero_of 100) (eight 1_000) ≡ false
faint_beside_loud = refl

too_loud : refuses ear (eight 100) (zero_of 242) (eight 100) ≡ true
too_loud = refl

not_too_loud : refuses ear (eight 100) (zero_of 241) (eight 100) ≡ false
not_too_loud = refl

the_eighth_counts : refuses ear (replicate 7 (zero_of 100) ++ zero_of 108 ∷ []) (zero_of 242) (eight 100) ≡ false
the_eighth_counts = refl

the_ninth_does_not : refuses ear (eight 100 ++ zero_of 108 ∷ []) (zero_of 242) (eight 100) ≡ true
the_ninth_does_not = refl

the_eighth_behind_counts : refuses ear (eight 100) (zero_of 242) (replicate 7 (zero_of 100) ++ zero_of 108 ∷ [])
    ≡ false
the_eighth_behind_counts = refl

the_ninth_behind_does_not : refuses ear (eight 100) (zero_of 242) (eight 100 ++ zero_of 108 ∷ []) ≡ true
the_ninth_behind_does_not = refl

the_first_is_none : refuses ear [] (zero_of 1) (eight 100) ≡ false
the_first_is_none = refl

-- ---- the grain

grain_of_samples : ear_of (Repeat 4) 250 ≡ record { least = 250; grain = 4 }
grain_of_samples = refl

grain_of_steps : ear_of (Sum 4) 250 ≡ record { least = 250; grain = 1 }
grain_of_steps = refl
