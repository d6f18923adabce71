-- The name and the place of a fault.
use Rattle.std.specs.Prelude.{ℕ, List}
use Rattle.file_faults.specs.declared.sound.WaveFault.{WaveFault}
use Rattle.file_faults.specs.declared.sound.WaveFault.TheVariants.{Riff, Wave, Ds64, Format, Track, Truncated}
use Rattle.file_faults.specs.declared.sound_names.TheConstants.{RIFF_NAME, WAVE_NAME, DS64_NAME, FORMAT_NAME, TRACK_NAME}
use Rattle.file_faults.specs.declared.sound_names.TheConstants.{TRUNCATED_NAME}

-- the name under which notes print a fault
abbrev pub name_of : WaveFault → List ℕ
name_of (Riff place) = RIFF_NAME.now
name_of (Wave place) = WAVE_NAME.now
name_of (Ds64 place) = DS64_NAME.now
name_of (Format place) = FORMAT_NAME.now
name_of (Track place) = TRACK_NAME.now
name_of (Truncated place) = TRUNCATED_NAME.now

-- the byte place of a fault
abbrev pub place_of : WaveFault → ℕ
place_of fault = elim fault [ Riff p ↦ p | Wave p ↦ p | Ds64 p ↦ p | Format p ↦ p | Track p ↦ p | Truncated p ↦ p ]
