-- The values that the slots of a command take are in the ranges of its job: sound.
use Rattle.std.proofs.Common.{◌≡◌, ◌≤◌, ◌*◌, ◌/◌, ◌^◌, ℕ, min, max, true, List, Some, refl, ap, arith}
use Rattle.std.proofs.Common.{take}
use Rattle.std.specs.Prelude.{slice_get}
use Rattle.std.specs.Option.{is_some}
use Rattle.std.specs.declared.option.Option.{Option}
use Rattle.std.proofs.Math.Nat.{mul-div-le}
use Rattle.std.proofs.lemmas.Nat.{mul-le, le-div}
use Rattle.limits.specs.declared.recording.TheConstants.{MAX_TICK_RATE}
use Rattle.limits.specs.declared.sound_file.TheConstants.{MAX_TRACKS}
use Rattle.pcm_front.specs.State.{IsThreshold}
use Rattle.pcm_front.specs.declared.threshold.TheConstants.{MAX_THRESHOLD}
use Rattle.pcm_front.specs.declared.threshold.Threshold.{Threshold}
use Rattle.pcm_front.specs.declared.threshold.Threshold.TheVariants.{Fixed, Follow}
use Rattle.pcm_front.specs.declared.window.TheConstants.{MAX_SMOOTH}
use Rattle.step_grid.specs.Grid.{IsGrid}
use Rattle.step_grid.specs.declared.grid.Grid.{Grid}
use Rattle.tc_address.specs.declared.system.System.{System}
use Rattle.tc_job.specs.PathGrid.{grid_for, step_ticks}
use Rattle.tc_job.specs.PathSlicing.{IsPathSlicing, path_slicing_of}
use Rattle.tc_job.specs.Slicing.{IsSlicing}
use Rattle.tc_job.specs.SoundLevel.{IsLevel}
use Rattle.tc_job.specs.TrackPath.{IsTrackPath}
use Rattle.tc_job.specs.WaveSlicing.{IsWaveSlicing}
use Rattle.tc_job.specs.declared.slicing.TheConstants.{MAX_FINENESS, MAX_LEVEL}
use Rattle.forms.specs.Held.{number_of, number_or, system_at, system_of}
use Rattle.forms.specs.Made.{slicing_in, threshold_of, track_path_in, wave_slicing_in}
use Rattle.forms.specs.Reading.{AreRead}
use Rattle.forms.specs.Slot.{IsPathFineness, IsPathRate, has_steps}
use Rattle.forms.specs.declared.slot.Bound.TheVariants.{Product}
use Rattle.forms.specs.declared.slot.Need.TheVariants.{OrLive}
use Rattle.forms.specs.declared.slot.Slot.TheVariants as kinds
use Rattle.forms.specs.declared.table.TheConstants.{LEVEL, PCM, PCM_PATH, WAV, WAV_PATH}
use Rattle.forms.specs.declared.value.Said.TheVariants as says
use Rattle.forms.specs.declared.value.Value.{Value}
use Rattle.forms.specs.declared.value.Value.TheVariants as values
use Rattle.forms.proofs.InSlots.{needed_value, number_given, ranged, ranged_or, seen_before}

pub level_valid : (all : List Value) → AreRead LEVEL.now all → IsLevel (number_or all 0 0)
level_valid all read = ranged LEVEL.now all 0 1 MAX_LEVEL read refl refl

pub track_path_valid : (all : List Value) → AreRead WAV_PATH.now all → IsTrackPath (track_path_in all)
unfolding track_path_in
track_path_valid all read = record {
  some_track = (ranged WAV_PATH.now all 1 1 MAX_TRACKS read refl refl).0;
  not_too_many = (ranged WAV_PATH.now all 1 1 MAX_TRACKS read refl refl).1;
  level = ranged WAV_PATH.now all 2 1 MAX_LEVEL read refl refl;
}

-- ---- thresholds of sums

-- a level of samples, times the samples of a sum
of_sum : (smooth level : ℕ) → 1 ≤ smooth → smooth ≤ MAX_SMOOTH → 1 ≤ level → level ≤ MAX_LEVEL
    → (1 ≤ smooth * level) × (smooth * level ≤ MAX_THRESHOLD)
of_sum smooth level some few low high =
    (mul-le 1 1 smooth level some low, mul-le smooth level MAX_SMOOTH MAX_LEVEL few high)

of_level : (other : Threshold) (least : ℕ) (o : Option Value) → IsThreshold other → 1 ≤ least → least ≤ MAX_THRESHOLD
    → IsThreshold (threshold_of other least o)
of_level other least (Some (values.Said says.Follow)) valid low high = (low, high)
of_level other least (Some (values.Said says.Deep)) valid low high = (low, high)
of_level other least _ valid low high = valid

pub pcm_least : (all : List Value) → AreRead PCM.now all → (1 ≤ number_or all 5 1 * number_or all 2 0)
    × (number_or all 5 1 * number_or all 2 0 ≤ MAX_THRESHOLD)
pcm_least all read =
    let smooth = ranged_or PCM.now all 5 1 MAX_SMOOTH 1 OrLive read refl (omega arith) (omega arith) in
    let level = ranged PCM.now all 2 1 MAX_LEVEL read refl refl in
    of_sum (number_or all 5 1) (number_or all 2 0) smooth.0 smooth.1 level.0 level.1

pub wav_least : (all : List Value) → AreRead WAV.now all → (1 ≤ number_or all 3 1 * number_or all 2 0)
    × (number_or all 3 1 * number_or all 2 0 ≤ MAX_THRESHOLD)
wav_least all read =
    let smooth = ranged_or WAV.now all 3 1 MAX_SMOOTH 1 OrLive read refl (omega arith) (omega arith) in
    let level = ranged WAV.now all 2 1 MAX_LEVEL read refl refl in
    of_sum (number_or all 3 1) (number_or all 2 0) smooth.0 smooth.1 level.0 level.1

pub wav_valid : (all : List Value) → AreRead WAV.now all → IsWaveSlicing (wave_slicing_in all)
unfolding wave_slicing_in
wav_valid all read =
    let least = wav_least all read in
    let smooth = ranged_or WAV.now all 3 1 MAX_SMOOTH 1 OrLive read refl (omega arith) (omega arith) in
    record {
      some_track = (ranged WAV.now all 1 1 MAX_TRACKS read refl refl).0;
      not_too_many = (ranged WAV.now all 1 1 MAX_TRACKS read refl refl).1;
      threshold = of_level (Follow (number_or all 3 1 * number_or all 2 0)) (number_or all 3 1 * number_or all 2 0)
          (slice_get all 4) least least.0 least.1;
      some_in_sum = smooth.0;
      most_in_sum = smooth.1;
    }

-- ---- ticks of a sample

-- a number that is at most a quotient
in_quotient : (rate n : ℕ) → 1 ≤ rate → n ≤ MAX_TICK_RATE / max rate 1 → rate * n ≤ MAX_TICK_RATE
in_quotient rate n some few =
    let itself : max rate 1 ≡ rate = omega (arith, some) in
    let less : n ≤ MAX_TICK_RATE / rate = rw (← itself) few in
    let product : rate * n ≤ rate * (MAX_TICK_RATE / rate) = mul-le rate n rate (MAX_TICK_RATE / rate) (omega arith) less in
    let all : rate * (MAX_TICK_RATE / rate) ≤ MAX_TICK_RATE = mul-div-le MAX_TICK_RATE rate in
    omega (arith, product, all)

at_most_other : (a b n : ℕ) → n ≤ min a b → n ≤ b
at_most_other a b n few = omega (arith, few)

pub pcm_fineness : (all : List Value) → AreRead PCM.now all → (1 ≤ number_or all 3 1)
    × (number_or all 3 1 ≤ MAX_FINENESS) × (number_or all 1 0 * number_or all 3 1 ≤ MAX_TICK_RATE)
pcm_fineness all read =
    let rate = ranged PCM.now all 1 1 MAX_TICK_RATE read refl refl in
    let seen : number_or (take 3 all) 1 0 ≡ number_or all 1 0 = ap (number_of 0) (seen_before all 3 1 (omega arith)) in
    let one : 1 ≤ MAX_TICK_RATE / max (number_or (take 3 all) 1 0) 1 =
    le-div 1 MAX_TICK_RATE (max (number_or (take 3 all) 1 0) 1) (omega arith) (omega (arith, rate.1, seen)) in
    let fits = number_given PCM.now all 3 1 (min MAX_FINENESS (MAX_TICK_RATE / max (number_or (take 3 all) 1 0) 1)) 1 OrLive
    (kinds.Bounded 1 MAX_FINENESS (Product 1 MAX_TICK_RATE)) read refl (λ v fits. fits) (omega arith)
    (omega (arith, one)) in (
      fits.0,
      omega (arith, fits.1),
      in_quotient (number_or all 1 0) (number_or all 3 1) rate.0
          (rw (← seen) (at_most_other MAX_FINENESS _ _ fits.1)),
    )

pub pcm_valid : (all : List Value) → AreRead PCM.now all → IsSlicing (slicing_in all)
unfolding slicing_in
pcm_valid all read =
    let least = pcm_least all read in
    let smooth = ranged_or PCM.now all 5 1 MAX_SMOOTH 1 OrLive read refl (omega arith) (omega arith) in
    let fineness = pcm_fineness all read in
    record {
      some_samples = (ranged PCM.now all 1 1 MAX_TICK_RATE read refl refl).0;
      threshold = of_level (Fixed (number_or all 5 1 * number_or all 2 0)) (number_or all 5 1 * number_or all 2 0)
          (slice_get all 4) least least.0 least.1;
      least = fineness.0;
      most = fineness.1;
      not_too_fast = fineness.2;
      some_in_sum = smooth.0;
      most_in_sum = smooth.1;
    }

-- ---- the best path

rate_is : (system : System) (o : Option Value) (v : Value) → o ≡ Some v → IsPathRate system v
    → (1 ≤ number_of 0 o) × (number_of 0 o ≤ MAX_TICK_RATE) × (is_some (grid_for system (number_of 0 o)) ≡ true)
rate_is system o (values.Number n) same is = rw same is
rate_is system o (values.Seed n) same is = absurd is
rate_is system o (values.Label label) same is = absurd is
rate_is system o (values.Page page) same is = absurd is
rate_is system o (values.Columns first last) same is = absurd is
rate_is system o (values.Said said) same is = absurd is

pub path_rate : (all : List Value) → AreRead PCM_PATH.now all → (1 ≤ number_or all 1 0)
    × (number_or all 1 0 ≤ MAX_TICK_RATE) × (is_some (grid_for (system_at all 0) (number_or all 1 0)) ≡ true)
path_rate all read =
    let (v, there, fits) = needed_value PCM_PATH.now all 1 (kinds.PathRate 0) read refl refl in
    let seen : system_at (take 1 all) 0 ≡ system_at all 0 = ap system_of (seen_before all 1 0 (omega arith)) in
    rate_is (system_at all 0) (slice_get all 1) v there (rw (← seen) fits)

fineness_is : (system : System) (rate : ℕ) (o : Option Value) (v : Value) → o ≡ Some v → IsPathFineness system rate v
    → (1 ≤ number_of 0 o) × (number_of 0 o ≤ MAX_FINENESS) × (rate * number_of 0 o ≤ MAX_TICK_RATE)
    × (has_steps system rate (number_of 0 o) ≡ true)
fineness_is system rate o (values.Number n) same is = rw same is
fineness_is system rate o (values.Seed n) same is = absurd is
fineness_is system rate o (values.Label label) same is = absurd is
fineness_is system rate o (values.Page page) same is = absurd is
fineness_is system rate o (values.Columns first last) same is = absurd is
fineness_is system rate o (values.Said said) same is = absurd is

pub path_fineness : (all : List Value) → AreRead PCM_PATH.now all → (1 ≤ number_or all 3 0)
    × (number_or all 3 0 ≤ MAX_FINENESS) × (number_or all 1 0 * number_or all 3 0 ≤ MAX_TICK_RATE)
    × (has_steps (system_at all 0) (number_or all 1 0) (number_or all 3 0) ≡ true)
path_fineness all read =
    let (v, there, fits) = needed_value PCM_PATH.now all 3 (kinds.PathFineness 0 1) read refl refl in
    let seen : system_at (take 3 all) 0 ≡ system_at all 0 = ap system_of (seen_before all 3 0 (omega arith)) in
    let rate : number_or (take 3 all) 1 0 ≡ number_or all 1 0 = ap (number_of 0) (seen_before all 3 1 (omega arith)) in
    fineness_is (system_at all 0) (number_or all 1 0) (slice_get all 3) v there (rw (← seen, ← rate) fits)

pub path_valid : (all : List Value) (grid : Grid) (ticks : ℕ) → AreRead PCM_PATH.now all
    → grid_for (system_at all 0) (number_or all 1 0) ≡ Some grid → IsGrid grid
    → step_ticks (number_or all 3 0) grid ≡ Some ticks → 2 ≤ ticks → ticks ≤ 2 ^ 16
    → IsPathSlicing (path_slicing_of (system_at all 0) (number_or all 1 0) (number_or all 2 0) (number_or all 3 0) grid
    ticks)
path_valid all grid ticks read is valid ticks_are low high =
    let fineness = path_fineness all read in
    record {
      some_samples = (path_rate all read).0;
      level = ranged PCM_PATH.now all 2 1 MAX_LEVEL read refl refl;
      least = fineness.0;
      most = fineness.1;
      not_too_fast = fineness.2;
      grid_is = is;
      grid = valid;
      ticks_are = ticks_are;
      least_ticks = low;
      most_ticks = high;
    }
