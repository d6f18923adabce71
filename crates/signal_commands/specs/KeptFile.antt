-- What a sound file keeps as a container. No promise speaks of it.
use Rattle.std.specs.Prelude.{◌≡◌, ℕ, ◌-◌, ◌≤◌, Bool, true, false, ℤ, List, Option, Some, None}
use Rattle.std.specs.Option.{option_map}
use Rattle.std.proofs.Common.{ap}
use Rattle.tc_command.specs.declared.input_fault.InputFault.TheVariants.{Sound}
use Rattle.tc_io.specs.Verdict.{good, verdict_as}
use Rattle.wave_file.specs.declared.format.Asked.{Asked}
use Rattle.wave_file.specs.declared.format.WaveFormat.{WaveFormat}
use Rattle.wave_file.specs.declared.stage.TheConstants.{MAX_BYTES}
use Rattle.wave_file.specs.Format.{IsTakenFor}
use Rattle.wave_file.specs.StandsFor.{StandsFor, IsCut, IsTold, format_in_decoding}
use Rattle.wave_file.specs.Wave.{Reading, end_fault_of, reading_of}
use Rattle.signal_commands.specs.declared.sound_file.SoundFile.{SoundFile}
use Rattle.signal_commands.specs.KeptListening.{Said, ContainerKind}

-- it was given these bytes, and gave their samples
pub record HoldsFile (s : SoundFile) (bytes : List ℕ) : Type 0 where
  pub samples : List ℤ
  pub decoder : StandsFor s.decoder bytes samples
  pub told : IsTold (reading_of s.decoder.asked bytes) (format_in_decoding s.decoder) samples good
  pub within : s.decoder.place ≤ MAX_BYTES

-- samples may come where there is a format
abbrev pub is_known : Option WaveFormat → Bool
is_known None = false
is_known (Some format) = true

-- what a reading says
abbrev pub said_of_reading : Reading → Said
said_of_reading r = record {
  format = r.format;
  begun = is_known r.format;
  samples = r.samples;
  all = r.samples;
  verdict = verdict_as Sound r.verdict;
}

-- and so do the bytes of a sound file
abbrev pub file_said : Asked → List ℕ → Said
file_said asked bytes = said_of_reading (reading_of asked bytes)

abbrev pub file_kind : ContainerKind SoundFile Asked
file_kind = record {
  asked = λ s. s.decoder.asked;
  says = file_said;
  ends = λ asked bytes. option_map Sound (end_fault_of asked bytes);
  most = λ asked. asked.most_samples;
  tells = IsTakenFor;
  holds = HoldsFile;
  short = λ s bytes. IsCut s.decoder bytes;
  left = λ s. MAX_BYTES - s.decoder.place;
}

pub file_is_good : (s : SoundFile) (bytes : List ℕ) → HoldsFile s bytes
    → verdict_as Sound (reading_of s.decoder.asked bytes).verdict ≡ good
file_is_good s bytes holds = ap (verdict_as Sound) holds.told.verdict_is
