-- The numbers of the clip, the hold, the halves and the intervals, each told from its neighbours.
use Rattle.std.proofs.Common.{◌≡◌, ℤ, pos, neg_ℤ, true, false, List, [], ◌∷◌, Some, refl}
use Rattle.cell_path.specs.declared.cell.Bit.TheVariants.{Zero, One}
use Rattle.cell_path.specs.declared.cell.Sign.TheVariants.{Minus}
use Rattle.path_front.specs.declared.hold.Side.TheVariants.{High, Low}
use Rattle.path_front.specs.Clip.{clip_at, clipped_to}
use Rattle.path_front.specs.Grid.{total}
use Rattle.path_front.specs.Hold.{held_at, loudness_of, side_by, side_of, threshold_by}
use Rattle.path_front.specs.Measured.{half_of, twice}
use Rattle.path_front.specs.Tiles.{intervals}

-- ---- the clip: samples of a mean size of 1,000

abbrev loud : List ℤ
loud = pos 4_000 ∷ pos 0 ∷ neg_ℤ (pos 0) ∷ pos 0 ∷ []

an_eighth_above : clip_at 1_601 loud ≡ 1_801
an_eighth_above = refl

no_more_than_three_means : clip_at 2_668 loud ≡ 3_000
no_more_than_three_means = refl

below_three_means : clip_at 2_666 loud ≡ 2_999
below_three_means = refl

no_less_than_the_mean : clip_at 888 loud ≡ 1_000
no_less_than_the_mean = refl

above_the_mean : clip_at 890 loud ≡ 1_001
above_the_mean = refl

high : clipped_to 1_000 (pos 1_001) ≡ pos 1_000
high = refl

low : clipped_to 1_000 (neg_ℤ (pos 1_001)) ≡ neg_ℤ (pos 1_000)
low = refl

-- ---- the hold

threshold : threshold_by 1 (record { peak = 1_003; sum = 204_800 }) ≡ 301
threshold = refl

threshold_of_eighths : threshold_by 1 (record { peak = 1_000; sum = 204_800 }) ≡ 300
threshold_of_eighths = refl

least_threshold : threshold_by 301 (record { peak = 1_000; sum = 204_800 }) ≡ 301
least_threshold = refl

at_the_threshold : side_by 300 (Some Low) (pos 300) ≡ Some High
at_the_threshold = refl

below_it : side_by 300 (Some Low) (pos 299) ≡ Some Low
below_it = refl

at_the_other : side_by 300 (Some High) (neg_ℤ (pos 300)) ≡ Some Low
at_the_other = refl

above_the_other : side_by 300 (Some High) (neg_ℤ (pos 299)) ≡ Some High
above_the_other = refl

-- half of the mean size, of a sum of 6,144
held : held_at 1 (pos 6_144 ∷ []) ≡ pos 6_147
unfolding side_of loudness_of
held = refl

-- a sample below the least threshold is on no side
not_held : held_at 3_000 (pos 2_999 ∷ []) ≡ pos 2_999
unfolding side_of loudness_of
not_held = refl

-- ---- the halves of a cell of five steps: the middle one in both, once of twice

short_and_long : twice 0 0 5 (pos 1 ∷ pos 2 ∷ pos 4 ∷ pos 8 ∷ []) ≡ pos 1 ∷ pos 2 ∷ pos 1 ∷ pos 2 ∷ pos 4 ∷ []
short_and_long = refl

sum_and_squares : half_of Minus 0 0 5 (pos 1 ∷ pos 2 ∷ pos 4 ∷ pos 8 ∷ []) ≡ record { sum = neg_ℤ (pos 10); squares = 26 }
unfolding total
sum_and_squares = refl

-- ---- the intervals

a_zero : intervals Zero false 1_600 800 ≡ 1_600 ∷ []
a_zero = refl

a_one : intervals One false 1_600 800 ≡ 800 ∷ 800 ∷ []
a_one = refl

a_tick_is_cut_off : intervals One true 1_600 800 ≡ 1 ∷ 799 ∷ 800 ∷ []
a_tick_is_cut_off = refl

two_are_left : intervals One false 802 800 ≡ 2 ∷ 800 ∷ []
two_are_left = refl

fewer_would_be_left : intervals One false 801 800 ≡ 1 ∷ 1 ∷ 799 ∷ []
fewer_would_be_left = refl
