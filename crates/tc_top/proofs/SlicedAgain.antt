-- A sound that is made of a recording is read sample by sample as it was made, and sliced into its intervals.
use Rattle.std.proofs.Common.{◌≡◌, ℕ, ◌*◌, ◌<◌, ◌≤◌, ◌^◌, List, [], ◌∷◌, ◌++◌, length, map, take, drop, Bool, false}
use Rattle.std.proofs.Common.{Option, Some, None}
use Rattle.std.proofs.Common.{subst, ap, ap₂, sym, ◌∙◌, append-nil, arith}
use Rattle.std.proofs.lemmas.Grind.{flat_map-append}
use Rattle.std.proofs.lemmas.List.{length-take, take-append-drop}
use Rattle.std.specs.List.{flat_map, AllByRecursion}
use Rattle.limits.specs.declared.recording.TheConstants.{MAX_INTERVALS}
use Rattle.pcm_front.specs.declared.threshold.Threshold.{Threshold}
use Rattle.pcm_front.specs.declared.threshold.Threshold.TheVariants.{Fixed, Follow}
use Rattle.pcm_front.specs.Distance.{distances, distances_from_start, intervals, intervals_by, pieces_of, IsInterval}
use Rattle.pcm_front.specs.Pace.{intervals_at}
use Rattle.pcm_front.specs.Samples.{bytes_of, samples_of}
use Rattle.pcm_front.specs.Sound.{sound}
use Rattle.pcm_front.specs.Sums.{sums}
use Rattle.std.specs.Prelude.{ℤ}
use Rattle.interval_file.specs.declared.header.IntervalHeader.{IntervalHeader}
use Rattle.tc_io.specs.Bytes.{AreBytes}
use Rattle.interval_file.specs.Grammar.{AreIntervals, IsFile, file_of}
use Rattle.interval_file.specs.Recording.{Recording, end_fault_of, recording_of}
use Rattle.tc_io.specs.Verdict.{good}
use Rattle.tc_io.specs.VerdictLemmas.{ends_whole, is_good}
use Rattle.interval_engine.specs.Along.{IsWholeOf, along_intervals}
use Rattle.interval_commands.specs.LtcPcm.{made_sound}
use Rattle.tc_command.specs.Meaning.{IsInput}
use Rattle.signal_commands.specs.PcmLtc.{pace_for, settings_for, sliced_header}
use Rattle.signal_commands.specs.WavLtc.{track_file, track_header, track_of, track_pace, track_settings}
use Rattle.tc_job.specs.Pace.{pace_of}
use Rattle.tc_job.specs.Slicing.{Slices}
use Rattle.tc_job.specs.WaveSlicing.{SlicesWave}
use Rattle.wave_file.specs.declared.format.WaveFormat.{WaveFormat}
use Rattle.wave_file.specs.Wave.{reading_of}
use Rattle.tc_top.specs.SoundAgain.{times, IsBehindTheFirst, IsSlicedAgain, SlicesFileTo}
use Rattle.tc_command.specs.declared.input_fault.InputFault.TheVariants.{Intervals}
use Rattle.signal_commands.specs.WavLtc.{asked_by}

-- what the laws of the files, of samples and of sound say
pub record SoundLaws : Type 0 where
  pub inputs : (bytes : List ℕ) → AreBytes bytes → (recording_of bytes).verdict ≡ good → end_fault_of bytes ≡ None
      → (header : IntervalHeader) × (xs : List ℕ) × IsFile bytes header xs × (length xs ≤ MAX_INTERVALS)
  pub files : (bytes : List ℕ) (header : IntervalHeader) (xs : List ℕ) → IsFile bytes header xs
      → length xs ≤ MAX_INTERVALS
      → (recording_of bytes ≡ record { header = Some header; intervals = xs; verdict = good })
      × (end_fault_of bytes ≡ None)
  pub samples : (level : ℕ) (xs : List ℕ) → level < 2 ^ 15 → samples_of (bytes_of (sound level xs)) ≡ sound level xs
  pub apart : (fineness threshold level : ℕ) (xs : List ℕ) → 1 ≤ threshold → threshold ≤ level
      → AllByRecursion IsInterval xs
      → distances fineness (Fixed threshold) (sound level xs) ≡ map (λ interval. fineness * interval) xs
  pub sliced : (threshold level : ℕ) (xs : List ℕ) → 1 ≤ threshold → threshold ≤ level → AllByRecursion IsInterval xs
      → intervals 1 (Fixed threshold) (sound level xs) ≡ xs
  pub alone : (samples : List ℤ) → sums 1 samples ≡ samples
  pub followed : (fineness threshold level : ℕ) (xs : List ℕ) → 1 ≤ threshold → threshold ≤ level
      → level ≤ 2 * threshold
      → AllByRecursion IsInterval xs
      → distances fineness (Follow threshold) (sound level xs) ≡ map (λ interval. fineness * interval) xs
  pub behind : (fineness : ℕ) (threshold : Threshold) (samples : List ℤ)
      → drop 1 (distances_from_start fineness threshold samples) ≡ distances fineness threshold samples

-- a sample that stands for itself is no sum
for_itself : SoundLaws → (s : Slices) (samples : List ℤ) → s.smooth ≡ 1 → s.live ≡ false
    → intervals_at (pace_for s) (settings_for s) samples ≡ intervals s.fineness s.threshold samples
for_itself laws s samples one ended =
    ap (λ (live : Bool). intervals_at (pace_of live s.system (s.rate * s.fineness)) (settings_for s) samples) ended
    ∙ append-nil (intervals_by (settings_for s) samples)
    ∙ ap (λ (n : ℕ). intervals s.fineness s.threshold (sums n samples)) one
    ∙ ap (intervals s.fineness s.threshold) (laws.alone samples)

all_intervals : (xs : List ℕ) → AreIntervals xs → AllByRecursion IsInterval xs
all_intervals [] are = tt
all_intervals (x ∷ xs) are = ((are.0, are.1), all_intervals xs are.2)

-- ---- in a sound file

-- what is written of a track whose format is known
file_written : (w : SlicesWave) (format : WaveFormat) (samples : List ℤ) (bytes : List ℕ)
    → (reading_of (asked_by w) bytes).format ≡ Some format → (reading_of (asked_by w) bytes).samples ≡ samples
    → track_of w bytes ≡ file_of (track_header w format) (intervals_at (track_pace w format) (track_settings w) samples)
file_written w format samples bytes begins are =
    ap₂ (λ (f : Option WaveFormat) (l : List ℤ). track_file w f l) begins are

-- the intervals of samples that stand for themselves, from the first one on
track_intervals : SoundLaws → (w : SlicesWave) (format : WaveFormat) (samples : List ℤ) (t : Threshold)
    → w.smooth ≡ 1 → w.live ≡ false → w.threshold ≡ t
    → intervals_at (track_pace w format) (track_settings w) samples ≡ flat_map pieces_of
    (distances_from_start 16 t samples)
track_intervals laws w format samples t one ended is =
    ap (λ (live : Bool). intervals_at (pace_of live w.system (16 * format.rate)) (track_settings w) samples) ended
    ∙ append-nil (intervals_by (track_settings w) samples)
    ∙ ap (λ (n : ℕ). flat_map pieces_of (distances_from_start 16 w.threshold (sums n samples))) one
    ∙ ap (λ (l : List ℤ). flat_map pieces_of (distances_from_start 16 w.threshold l)) (laws.alone samples)
    ∙ ap (λ (threshold : Threshold). flat_map pieces_of (distances_from_start 16 threshold samples)) is

-- what a track of the sound is sliced into
behind_the_first : SoundLaws → (level : ℕ) (xs : List ℕ) → AllByRecursion IsInterval xs
    → (w : SlicesWave) (format : WaveFormat)
    (made bytes again : List ℕ) → samples_of made ≡ sound level xs → SlicesFileTo level w format made bytes again
    → IsBehindTheFirst (track_header w format) xs again
behind_the_first laws level xs all w format made bytes again read s =
    let t = Follow s.least in
    let ds = distances_from_start 16 t (sound level xs) in
    let told = s.samples ∙ read in
    let rest : drop 1 ds ≡ times 16 xs = laws.behind 16 t (sound level xs)
    ∙ laws.followed 16 s.least level xs s.some s.most s.half all in
    let split : ds ≡ take 1 ds ++ times 16 xs =
    sym (take-append-drop 1 ds) ∙ ap (λ (l : List ℕ). take 1 ds ++ l) rest in (
      take 1 ds,
      omega (arith, length-take 1 ds),
      s.output
          ∙ file_written w format (sound level xs) bytes s.begins told
          ∙ ap (file_of (track_header w format))
          (track_intervals laws w format (sound level xs) t s.alone s.ended s.follows)
          ∙ ap (λ (l : List ℕ). file_of (track_header w format) (flat_map pieces_of l)) split
          ∙ ap (file_of (track_header w format)) (flat_map-append pieces_of (take 1 ds) (times 16 xs)),
    )

pub sliced_again : SoundLaws → (level : ℕ) → level < 2 ^ 15 → (bytes made : List ℕ) → AreBytes bytes
    → IsInput (along_intervals (made_sound level)) bytes → IsWholeOf (made_sound level) (recording_of bytes) made
    → IsSlicedAgain level bytes made
sliced_again laws level below bytes made are input whole =
    let file = laws.inputs bytes are (is_good Intervals _ input.verdict) (ends_whole Intervals _ input.end) in
    let xs = file.1 in
    let all = all_intervals xs file.2.range in
    let said = (laws.files bytes file.0 xs file.2 file.3).0 in
    let same : (recording_of bytes).intervals ≡ xs = ap (λ (r : Recording). r.intervals) said in
    let sounded : made ≡ bytes_of (sound level xs) = subst (λ (r : Recording). IsWholeOf (made_sound level) r made) said
    whole in
    let read : samples_of made ≡ sound level xs = ap samples_of sounded ∙ laws.samples level xs below in
    let apart : (fineness threshold : ℕ) → 1 ≤ threshold → threshold ≤ level
    → distances fineness (Fixed threshold) (samples_of made) ≡ times fineness (recording_of bytes).intervals =
    λ fineness threshold some most.
    ap (distances fineness (Fixed threshold)) read ∙ laws.apart fineness threshold level xs some most all
    ∙ ap (times fineness) (sym same) in
    record {
      apart = apart;
      finer = λ slicing again s.
          s.output
          ∙ ap (file_of (sliced_header slicing)) (for_itself laws slicing (samples_of made) s.alone s.ended)
          ∙ ap (λ (t : Threshold). file_of (sliced_header slicing) (intervals slicing.fineness t (samples_of made)))
          s.fixed
          ∙ ap (λ (l : List ℕ). file_of (sliced_header slicing) (flat_map pieces_of l))
          (apart slicing.fineness s.threshold s.some s.most);
      whole = λ slicing again s one.
          s.output
          ∙ ap (file_of (sliced_header slicing)) (for_itself laws slicing (samples_of made) s.alone s.ended)
          ∙ ap₂ (λ (fineness : ℕ) (t : Threshold). file_of (sliced_header slicing)
          (intervals fineness t (samples_of made))) one s.fixed
          ∙ ap (λ (l : List ℤ). file_of (sliced_header slicing) (intervals 1 (Fixed s.threshold) l)) read
          ∙ ap (file_of (sliced_header slicing)) (laws.sliced s.threshold level xs s.some s.most all ∙ sym same);
      in_a_file = λ w format file again s.
          subst (λ (l : List ℕ). IsBehindTheFirst (track_header w format) l again) (sym same)
          (behind_the_first laws level xs all w format made file again read s);
    }
