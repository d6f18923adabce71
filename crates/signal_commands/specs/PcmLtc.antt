-- `pcm-ltc`: samples of sound, as an interval file of the distances of their crossings.
use Rattle.std.specs.Prelude.{◌≡◌, ℕ, ◌*◌, ◌%◌, ◌==◌, true, false, cond, nat_lt, ℤ, neg_ℤ, List, length, map, take}
use Rattle.std.specs.Prelude.{Option, Some, None}
use Rattle.pcm_front.specs.declared.pace.Pace.{Pace}
use Rattle.pcm_front.specs.declared.pace.Pace.TheVariants.{Ended, Passing}
use Rattle.pcm_front.specs.Covered.{TellTheCrossings}
use Rattle.pcm_front.specs.Pace.{intervals_at}
use Rattle.pcm_front.specs.Samples.{bytes_of, samples_of}
use Rattle.pcm_front.specs.Settings.{from_crossing, Settings}
use Rattle.tc_command.specs.declared.input_fault.InputFault.{InputFault}
use Rattle.tc_command.specs.declared.input_fault.InputFault.TheVariants.{HalfSample}
use Rattle.interval_file.specs.declared.header.FileVersion.TheVariants.{One}
use Rattle.interval_file.specs.declared.header.IntervalHeader.{IntervalHeader}
use Rattle.interval_file.specs.Grammar.{file_of}
use Rattle.tc_io.specs.Verdict.{Verdict, good, past_limit}
use Rattle.tc_job.specs.Pace.{pace_of, quarter_frame}
use Rattle.tc_job.specs.Slicing.{Slices}
use Rattle.signal_commands.specs.declared.pcm_ltc.TheConstants.{MAX_SAMPLES}
use Rattle.tc_command.specs.Meaning.{Meaning}
use Rattle.tc_command.specs.Told.{Told}

-- the header: each sample has `fineness` ticks
abbrev pub sliced_header : Slices → IntervalHeader
sliced_header s = record { version = One; system = s.system; tick_rate = s.rate * s.fineness }

-- how samples are sliced: from the first crossing on
abbrev pub settings_for : Slices → Settings
settings_for s = from_crossing s.fineness s.threshold s.smooth

-- when the intervals of a distance are written
abbrev pub pace_for : Slices → Pace
pace_for s = pace_of s.live s.system (s.rate * s.fineness)

-- the intervals of samples: where it is live, the pieces that have passed behind the last crossing stand at their end
abbrev pub sliced_intervals : Slices → List ℤ → List ℕ
sliced_intervals s samples = intervals_at (pace_for s) (settings_for s) samples

-- their file
abbrev pub sliced : Slices → List ℤ → List ℕ
sliced s samples = file_of (sliced_header s) (sliced_intervals s samples)

-- at most this many whole samples are taken
abbrev pub samples_within : ℕ → List ℕ → Verdict InputFault
samples_within most bytes = cond (nat_lt most (length (samples_of bytes))) past_limit good

-- the input may not end inside a sample
abbrev pub odd_fault : List ℕ → Option InputFault
odd_fault bytes = cond (length bytes % 2 == 1) (Some (HalfSample (length bytes))) None

-- what it takes and what it writes: the header stands before the first sample
abbrev pub along_samples : Slices → Meaning
along_samples s = record {
  reads = true;
  verdict = samples_within MAX_SAMPLES;
  end_fault = odd_fault;
  spent = λ bytes. ⊥;
  part = λ bytes written. written ≡ sliced s (take MAX_SAMPLES (samples_of bytes));
  output = λ bytes written. written ≡ sliced s (samples_of bytes);
}

-- what was written is the file of the intervals of the samples, from the first crossing on, and these samples are all
-- that the bytes hold. The intervals give their crossings. A distance is written when it has ended, or if it is
-- live, in quarters of a frame as it passes. Bytes of the same samples turned over, each into its negative, are sliced
-- into the same file
pub record SlicesTheSound (s : Slices) (bytes written : List ℕ) : Type 0 where
  pub are : written ≡ file_of (sliced_header s)
      (intervals_at (pace_for s) (from_crossing s.fineness s.threshold s.smooth) (samples_of bytes))
  pub samples : bytes ≡ bytes_of (samples_of bytes)
  pub tell : TellTheCrossings (pace_for s) (from_crossing s.fineness s.threshold s.smooth) (samples_of bytes)
  pub ended : s.live ≡ false → pace_for s ≡ Ended
  pub passing : s.live ≡ true → pace_for s ≡ Passing (quarter_frame s.system (s.rate * s.fineness))
  pub polarity : (over : List ℕ) → samples_of over ≡ map neg_ℤ (samples_of bytes) → written ≡ sliced s (samples_of over)

-- what is told of it
abbrev pub told_pcm_ltc : Slices → Told
told_pcm_ltc slicing = record {
  meaning = along_samples slicing;
  promise = SlicesTheSound slicing;
  has_own_limit = false;
}
