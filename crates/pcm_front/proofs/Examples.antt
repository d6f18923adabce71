-- Samples that were sliced by hand, as theorems on the definition.
use Rattle.std.proofs.Common.{◌≡◌, ℤ, pos, neg_ℤ, [], ◌∷◌, ◌++◌, replicate, refl}
use Rattle.pcm_front.specs.declared.threshold.Threshold.TheVariants.{Fixed, Follow, Deep}
use Rattle.pcm_front.specs.Distance.{distances, distances_by, pieces_of}
use Rattle.pcm_front.specs.Level.{level_of}
use Rattle.pcm_front.specs.Settings.{from_crossing, from_start}
use Rattle.pcm_front.specs.Sums.{sums, total}

high : ℤ
high = pos 2_000

low : ℤ
low = neg_ℤ (pos 2_000)

above : ℤ
above = pos 900

below : ℤ
below = neg_ℤ (pos 900)

-- a run of 24 samples and two of 12, between two more runs
three_runs : distances 1 (Fixed 1_000)
    (replicate 5 high ++ (replicate 24 low ++ (replicate 12 high ++ (replicate 12 low ++ high ∷ [])))) ≡ 24 ∷ 12 ∷ 12
    ∷ []
unfolding high low
three_runs = refl

-- the first crossing is after 12 of 16 ticks, the second after all of them, the third after 8
on_the_line : distances 16 (Fixed 1_000) (low ∷ high ∷ neg_ℤ (pos 1_000) ∷ pos 3_000 ∷ []) ≡ 20 ∷ 8 ∷ []
unfolding high low
on_the_line = refl

-- five and a third of 16 ticks are 6, and ten and two thirds are 11
rounded_up : distances 16 (Fixed 1_000) (low ∷ pos 0 ∷ pos 3_000 ∷ neg_ℤ (pos 3_000) ∷ []) ≡ 21 ∷ []
unfolding high low
rounded_up = refl

-- the thresholds are 4080, 4074, 4068 and 5536: the second sample lies on no side, and is above the threshold of the
-- third
followed : distances 16 (Follow 1) (neg_ℤ (pos 32_768) ∷ pos 4_073 ∷ pos 4_080 ∷ neg_ℤ (pos 20_000) ∷ []) ≡ 22 ∷ []
followed = refl

-- at a third of the height it would be 22
at_a_half : distances 16 (Follow 1) (neg_ℤ (pos 32_768) ∷ pos 4_067 ∷ pos 4_080 ∷ neg_ℤ (pos 20_000) ∷ []) ≡ 21 ∷ []
at_a_half = refl

-- the sum of a thousand sizes, of which a 1024th goes at each: with a 512th it would be 439745
sum_of_a_thousand : (level_of (replicate 1_000 (pos 1_000))).sum ≡ 638_859
sum_of_a_thousand = refl

-- the peak rises by a quarter of what it lacks, to 1000, and then falls by a 1024th, rounded up: by 1 at each sample
peak_falls : (level_of (pos 4_000 ∷ replicate 100 (pos 0))).peak ≡ 900
peak_falls = refl

-- sums of three, with zeros before the first
sums_of_three : sums 3 (pos 1 ∷ pos 10 ∷ pos 100 ∷ pos 1_000 ∷ neg_ℤ (pos 10_000) ∷ [])
    ≡ pos 1 ∷ pos 11 ∷ pos 111 ∷ pos 1_110 ∷ neg_ℤ (pos 8_900) ∷ []
unfolding total
sums_of_three = refl

-- three and three samples of 900 below and above zero, in sums of three: the first crossing is at tick 62
summed : distances_by (from_start 16 (Follow 300) 3)
    (replicate 3 below ++ (replicate 3 above ++ (replicate 3 below ++ above ∷ []))) ≡ 62 ∷ 49 ∷ []
unfolding total above below
summed = refl

-- if the first distance begins at the first crossing, it is not among them
summed_from_crossing : distances_by (from_crossing 16 (Follow 300) 3)
    (replicate 3 below ++ (replicate 3 above ++ (replicate 3 below ++ above ∷ []))) ≡ 49 ∷ []
unfolding total above below
summed_from_crossing = refl

-- a quarter of 8184 less 33 is 2037, and of 8176 less 35 it is 2035
deep : distances 16 (Deep 1) (neg_ℤ (pos 32_768) ∷ pos 2_037 ∷ neg_ℤ (pos 2_035) ∷ []) ≡ 16 ∷ []
deep = refl

-- one less lies on no side
not_deep : distances 16 (Deep 1) (neg_ℤ (pos 32_768) ∷ pos 2_036 ∷ neg_ℤ (pos 2_035) ∷ []) ≡ []
not_deep = refl

-- two greatest intervals are written as two
two_pieces : pieces_of 33_554_430 ≡ 16_777_215 ∷ 16_777_215 ∷ []
two_pieces = refl
