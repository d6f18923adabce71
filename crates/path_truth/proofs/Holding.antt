-- A sound that keeps its level is held on the side of its sample, from the first one on: where the
-- threshold is above the sample, the mean size is so low that half of it does not reach the sample.
use Rattle.std.proofs.Common.{◌≡◌, ℕ, ◌+◌, ◌-◌, ◌*◌, ◌/◌, ◌<◌, ◌≤◌, ◌⊎◌, inl, inr, max, Bool, true, false, cond, nat_lt}
use Rattle.std.proofs.Common.{List, [], ◌∷◌, Option, Some, None, refl, arith}
use Rattle.std.proofs.Common.{ℤ, pos, neg_ℤ, ◌<ℤ◌, int_le, unsigned_abs}
use Rattle.std.specs.Int.{div_ceil}
use Rattle.std.specs.List.{AllByRecursion}
use Rattle.std.proofs.lemmas.Bool.Decides.{nat_tests}
use Rattle.std.proofs.lemmas.Int.{ints}
use Rattle.cell_path.specs.declared.cell.Sign.{Sign}
use Rattle.cell_path.specs.declared.cell.Sign.TheVariants.{Plus, Minus}
use Rattle.cell_path.specs.Path.{signed}
use Rattle.path_front.specs.declared.hold.Side.{Side}
use Rattle.path_front.specs.declared.hold.Side.TheVariants.{High, Low}
use Rattle.path_front.specs.Hold.{held_at, held_to, loudness_of, side_by, side_of, threshold_by}
use Rattle.path_truth.specs.Sound.{IsSized, KeepsItsLevel}

peak-by : (rises : Bool) (peak size high : ℕ) → nat_lt peak size ≡ rises → peak ≤ high → size ≤ high
    → cond rises (peak + div_ceil (size - peak) 4) (peak - div_ceil peak 1_024) ≤ high
peak-by true peak size high is low most = grind (arith, nat_tests)
peak-by false peak size high is low most = omega arith

-- the peak never passes the greatest size
loudness-most : (low high : ℕ) (samples : List ℤ) → AllByRecursion (IsSized low high) samples
    → (loudness_of samples).peak ≤ high
unfolding loudness_of
loudness-most low high [] are = omega arith
loudness-most low high (sample ∷ before) are =
    let peak = (loudness_of before).peak in
    let size = unsigned_abs sample in
    peak-by (nat_lt peak size) peak size high refl (loudness-most low high before are.1) are.0.most

-- so the threshold passes no size, or what is added is less than each
threshold-or-mean : (least low high peak mean size : ℕ) → least ≤ low → 3 * high ≤ 14 * low → peak ≤ high → low ≤ size
    → (max (3 * (peak - mean) / 8) least ≤ size) ⊎ (mean / 2 < size)
threshold-or-mean least low high peak mean size heard near most above = grind arith

reached-by : (high low : Bool) (sign : Sign) (threshold by : ℕ) (before : Option Side) (s : ℤ)
    → int_le (pos threshold) s ≡ high → int_le s (neg_ℤ (pos threshold)) ≡ low → threshold ≤ unsigned_abs s
    → pos 0 <ℤ signed sign s
    → pos 0 <ℤ signed sign (held_to (cond high (Some High) (cond low (Some Low) before)) by s)
reached-by true low Plus threshold by before s up down above on = omega (arith, ints)
reached-by true low Minus threshold by before s up down above on = absurd (grind (arith, ints))
reached-by false low Plus threshold by before s up down above on = absurd (grind (arith, ints))
reached-by false true Minus threshold by before s up down above on = omega (arith, ints)
reached-by false false Minus threshold by before s up down above on = absurd (grind (arith, ints))

-- whatever the side is, less than the sample is added
added-by : (side : Option Side) (sign : Sign) (by : ℕ) (s : ℤ) → by < unsigned_abs s → pos 0 <ℤ signed sign s
    → pos 0 <ℤ signed sign (held_to side by s)
added-by None sign by s less on = on
added-by (Some High) Plus by s less on = omega (arith, ints)
added-by (Some High) Minus by s less on = omega (arith, ints)
added-by (Some Low) Plus by s less on = omega (arith, ints)
added-by (Some Low) Minus by s less on = omega (arith, ints)

held-by : (sign : Sign) (threshold by : ℕ) (before : Option Side) (s : ℤ)
    → (threshold ≤ unsigned_abs s) ⊎ (by < unsigned_abs s) → pos 0 <ℤ signed sign s
    → pos 0 <ℤ signed sign (held_to (side_by threshold before s) by s)
held-by sign threshold by before s (inl above) on =
    reached-by (int_le (pos threshold) s) (int_le s (neg_ℤ (pos threshold))) sign threshold by before s refl refl above
    on
held-by sign threshold by before s (inr less) on = added-by (side_by threshold before s) sign by s less on

pub held-side : (least low high : ℕ) (sign : Sign) (sample : ℤ) (before : List ℤ)
    → KeepsItsLevel least low high (sample ∷ before) → pos 0 <ℤ signed sign sample
    → pos 0 <ℤ signed sign (held_at least (sample ∷ before))
unfolding side_of
held-side least low high sign sample before keeps on =
    let loud = loudness_of (sample ∷ before) in
    let threshold = threshold_by least loud in
    let or = threshold-or-mean least low high loud.peak (loud.sum / 1_024) (unsigned_abs sample) keeps.heard keeps.near
    (loudness-most low high (sample ∷ before) keeps.sizes) keeps.sizes.0.least in
    held-by sign threshold (loud.sum / 1_024 / 2) (side_of least before) sample or on
