-- A threshold that follows the level lies between its least and half of the greatest sample, since the peak is no
-- greater than that.
use Rattle.std.proofs.Common.{ℕ, ◌+◌, ◌/◌, ◌≤◌, max, ℤ, pos, ◌≤ℤ◌, ◌-ℤ◌, List, take, unsigned_abs}
use Rattle.std.proofs.Common.{arith}
use Rattle.std.specs.Prelude.{◌+ℤ◌}
use Rattle.std.specs.List.{AllByRecursion}
use Rattle.std.proofs.lemmas.Int.{ints}
use Rattle.lemmas.specs.Lists.{front_keeps}
use Rattle.pcm_front.specs.declared.level.Level.{Level}
use Rattle.pcm_front.specs.declared.threshold.Threshold.{Threshold}
use Rattle.pcm_front.specs.declared.threshold.Threshold.TheVariants.{Fixed, Follow, Deep}
use Rattle.pcm_front.specs.Level.{least_of, level_of, threshold_at, threshold_by}
use Rattle.tape_sound.specs.Margin.{noise_in_step, StaysBetween}

by_level : (threshold : Threshold) (most : ℕ) (level : Level) → level.peak ≤ most
    → (least_of threshold ≤ threshold_by threshold level)
    × (threshold_by threshold level ≤ max (least_of threshold) (most / 2))
by_level (Fixed t) most level within = (omega arith, omega arith)
by_level (Follow t) most level within = (omega arith, omega (arith, within))
by_level (Deep t) most level within = (omega arith, omega (arith, within))

-- it is its least at each sample
pub at_least : (threshold : Threshold) (sound : List ℤ) (place : ℕ)
    → least_of threshold ≤ threshold_at threshold sound place
at_least threshold sound place =
    let level : Level = level_of (take (place + 1) sound) in (by_level threshold level.peak level (omega arith)).0

pub above_by : (least noise t : ℕ) → least ≤ t → ((pos least -ℤ pos noise) +ℤ pos noise) ≤ℤ pos t
above_by least noise t less = grind (arith, ints)

pub below_by : (most noise t : ℕ) → t ≤ most → (pos t +ℤ pos noise) ≤ℤ (pos most +ℤ pos noise)
below_by most noise t less = grind (arith, ints)

-- what the law of levels says
abbrev pub PeakLaw : Type 0
PeakLaw = (most : ℕ) (samples : List ℤ) → AllByRecursion (λ sample. unsigned_abs sample ≤ most) samples
    → (level_of samples).peak ≤ most

pub stays_between : PeakLaw → (threshold : Threshold) (most : ℕ) (noise : ℕ → ℕ) (sound : List ℤ)
    → 1 ≤ least_of threshold → AllByRecursion (λ sample. unsigned_abs sample ≤ most) sound
    → StaysBetween (λ place. pos (least_of threshold) -ℤ pos (noise_in_step noise place))
    (λ place. pos (max (least_of threshold) (most / 2)) +ℤ pos (noise_in_step noise place)) noise threshold sound
stays_between peaks threshold most noise sound some sizes place there =
    let front : List ℤ = take (place + 1) sound in
    let peak = peaks most front (front_keeps (λ s. unsigned_abs s ≤ most) (place + 1) sound sizes) in
    let between = by_level threshold most (level_of front) peak in
    record {
      some = omega (arith, some, between.0);
      above =
          above_by (least_of threshold) (noise_in_step noise place) (threshold_at threshold sound place) between.0;
      below =
          below_by (max (least_of threshold) (most / 2)) (noise_in_step noise place)
          (threshold_at threshold sound place) between.1;
    }
