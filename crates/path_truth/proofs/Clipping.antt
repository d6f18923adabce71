-- Clipping leaves each sample on its side, and no smaller than the smallest.
use Rattle.std.proofs.Common.{◌≡◌, ℕ, ◌*◌, ◌/◌, ◌<◌, ◌≤◌, max, min, Bool, true, false, cond, leb, List, [], ◌∷◌}
use Rattle.std.proofs.Common.{refl, arith}
use Rattle.std.proofs.Common.{ℤ, pos, neg_ℤ, ◌<ℤ◌, int_le, unsigned_abs}
use Rattle.std.specs.List.{AllByRecursion}
use Rattle.std.proofs.lemmas.Bool.Decides.{nat_tests}
use Rattle.std.proofs.lemmas.Int.{ints}
use Rattle.cell_path.specs.declared.cell.Sign.{Sign}
use Rattle.cell_path.specs.declared.cell.Sign.TheVariants.{Plus, Minus}
use Rattle.cell_path.specs.Path.{signed}
use Rattle.path_front.specs.Clip.{clip_at, clipped, clipped_to, sizes_of}
use Rattle.path_front.specs.Hold.{loudness_of}
use Rattle.path_front.specs.Sizes.{mean_size}
use Rattle.path_truth.specs.Sound.{IsSized}
use Rattle.path_truth.proofs.MeanSize.{mean-least, AreAbove}

-- on the sides of a number, and of a size in the same bounds
pub record IsLeft (low high : ℕ) (sample left : ℤ) : Type 0 where
  pub sized : IsSized low high left
  pub side : (sign : Sign) → pos 0 <ℤ signed sign sample → pos 0 <ℤ signed sign left

below_zero : (n : ℕ) → unsigned_abs (neg_ℤ (pos n)) ≡ n
below_zero n = omega (arith, ints)

cut_above : (sign : Sign) (most : ℕ) (s : ℤ) → 1 ≤ most → int_le (pos 0) s ≡ true → pos 0 <ℤ signed sign s
    → pos 0 <ℤ signed sign (pos most)
cut_above Plus most s some up is = omega (arith, ints)
cut_above Minus most s some up is = absurd (grind (arith, ints))

cut_below : (sign : Sign) (most : ℕ) (s : ℤ) → 1 ≤ most → int_le (pos 0) s ≡ false → pos 0 <ℤ signed sign s
    → pos 0 <ℤ signed sign (neg_ℤ (pos most))
cut_below Plus most s some up is = absurd (grind (arith, ints))
cut_below Minus most s some up is = omega (arith, ints)

left-by : (small up : Bool) (most low high : ℕ) (s : ℤ) → leb (unsigned_abs s) most ≡ small
    → int_le (pos 0) s ≡ up → low ≤ most → 1 ≤ low → IsSized low high s
    → IsLeft low high s (cond small s (cond up (pos most) (neg_ℤ (pos most))))
left-by true up most low high s test side above some is = record { sized = is; side = λ sign on. on }
left-by false true most low high s test side above some is =
    let less : most < unsigned_abs s = grind (arith, nat_tests) in
    record {
      sized = record { least = above; most = omega (arith, less, is.most) };
      side = λ sign on. cut_above sign most s (omega arith) side on;
    }
left-by false false most low high s test side above some is =
    let less : most < unsigned_abs s = grind (arith, nat_tests) in
    let size = below_zero most in
    record {
      sized = record { least = omega (arith, size); most = omega (arith, less, is.most, size) };
      side = λ sign on. cut_below sign most s (omega arith) side on;
    }

pub clipped_to-left : (most low high : ℕ) (s : ℤ) → low ≤ most → 1 ≤ low → IsSized low high s
    → IsLeft low high s (clipped_to most s)
clipped_to-left most low high s above some is =
    left-by (leb (unsigned_abs s) most) (int_le (pos 0) s) most low high s refl refl above some is

pub sizes-above : (low high : ℕ) (samples : List ℤ) → AllByRecursion (IsSized low high) samples
    → AreAbove low (sizes_of samples)
sizes-above low high [] are = tt
sizes-above low high (sample ∷ before) are = (are.0.least, sizes-above low high before are.1)

at-most : (a b c : ℕ) → c ≤ a → c ≤ max a b
at-most a b c h = omega arith

pub clip_at-least : (peak low high : ℕ) (sample : ℤ) (before : List ℤ)
    → AllByRecursion (IsSized low high) (sample ∷ before) → low ≤ clip_at peak (sample ∷ before)
clip_at-least peak low high sample before are =
    let sizes = sizes_of (sample ∷ before) in
    at-most (mean_size 1 sizes) (min (mean_size 3 sizes) (9 * peak / 8)) low
    (mean-least low (unsigned_abs sample) (sizes_of before) (sizes-above low high (sample ∷ before) are))

pub clipped-sized : (low high : ℕ) (samples : List ℤ) → 1 ≤ low → AllByRecursion (IsSized low high) samples
    → AllByRecursion (IsSized low high) (clipped samples)
unfolding clipped
clipped-sized low high [] some are = tt
clipped-sized low high (sample ∷ before) some are =
    let peak = (loudness_of (clipped before)).peak in
    let most = clip_at peak (sample ∷ before) in (
      (clipped_to-left most low high sample (clip_at-least peak low high sample before are) some are.0).sized,
      clipped-sized low high before some are.1,
    )
