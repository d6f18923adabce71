-- `pcm-ltc .. path`: samples of sound, as an interval file of the cells of the best path through them.
use Rattle.std.specs.Prelude.{◌≡◌, ℕ, ◌+◌, ◌*◌, ◌≤◌, true, false, ℤ, List, length, reverse, sum, take}
use Rattle.interval_file.specs.declared.header.FileVersion.TheVariants.{One}
use Rattle.interval_file.specs.declared.header.IntervalHeader.{IntervalHeader}
use Rattle.interval_file.specs.Grammar.{file_of}
use Rattle.path_front.specs.Front.{AreIntervals, AreIntervalsSoFar}
use Rattle.step_grid.specs.Grid.{AreStepsOf}
use Rattle.pcm_front.specs.Samples.{bytes_of, samples_of}
use Rattle.tc_command.specs.Meaning.{Meaning}
use Rattle.tc_command.specs.Told.{Told}
use Rattle.tc_job.specs.PathSlicing.{SlicesPath}
use Rattle.signal_commands.specs.PcmLtc.{odd_fault, samples_within}
use Rattle.signal_commands.specs.declared.pcm_ltc.TheConstants.{MAX_SAMPLES}

-- the header: each sample has `fineness` ticks
abbrev pub path_header : SlicesPath → IntervalHeader
path_header p = record { version = One; system = p.system; tick_rate = p.rate * p.fineness }

-- the file of the best path of samples, in their order
pub record IsPathFile (p : SlicesPath) (samples : List ℤ) (written : List ℕ) : Type 0 where
  pub intervals : List ℕ
  pub are : AreIntervals p.grid p.ticks p.least (reverse samples) intervals
  pub file : written ≡ file_of (path_header p) intervals

-- and what is written of it before its end
pub record IsPathFileSoFar (p : SlicesPath) (samples : List ℤ) (written : List ℕ) : Type 0 where
  pub intervals : List ℕ
  pub are : AreIntervalsSoFar p.grid p.ticks p.least (reverse samples) intervals
  pub file : written ≡ file_of (path_header p) intervals

-- what it takes and what it writes: the header stands before the first sample
abbrev pub along_path : SlicesPath → Meaning
along_path p = record {
  reads = true;
  verdict = samples_within MAX_SAMPLES;
  end_fault = odd_fault;
  spent = λ bytes. ⊥;
  part = λ bytes written. IsPathFileSoFar p (take MAX_SAMPLES (samples_of bytes)) written;
  output = λ bytes written. IsPathFile p (samples_of bytes) written;
}

-- what was written is the file of the intervals of the best path of the samples, which are all that the bytes hold, and
-- there is no other such file. The intervals add up to the time of the steps that these samples make, or to less by at
-- most 24 steps
pub record TellsThePath (p : SlicesPath) (bytes written : List ℕ) : Type 0 where
  pub path : IsPathFile p (samples_of bytes) written
  pub alone : (other : List ℕ) → IsPathFile p (samples_of bytes) other → other ≡ written
  pub samples : bytes ≡ bytes_of (samples_of bytes)
  pub steps : ℕ
  pub steps_are : AreStepsOf p.grid (length (samples_of bytes)) steps
  pub most : sum path.intervals ≤ p.ticks * steps
  pub least : p.ticks * steps ≤ sum path.intervals + 24 * p.ticks

-- what is told of it
abbrev pub told_pcm_path : SlicesPath → Told
told_pcm_path p = record { meaning = along_path p; promise = TellsThePath p; has_own_limit = false }
