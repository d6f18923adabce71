-- What settings in numbers mean. The numbers are this project's own.
use Rattle.std.specs.Prelude.{◌≡◌, ℕ}
use Rattle.biphase.specs.declared.profile.Profile.{Profile}
use Rattle.biphase.specs.declared.profile.Profile.TheVariants.{Normal, Worn, Rough}
use Rattle.pcm_front.specs.declared.pace.Pace.{Pace}
use Rattle.pcm_front.specs.declared.pace.Pace.TheVariants.{Ended, Passing}
use Rattle.pcm_front.specs.declared.start.Start.{Start}
use Rattle.pcm_front.specs.declared.start.Start.TheVariants.{Crossing, Tick}
use Rattle.pcm_front.specs.declared.threshold.Threshold.{Threshold}
use Rattle.pcm_front.specs.declared.threshold.Threshold.TheVariants.{Fixed, Follow, Deep}
use Rattle.pcm_front.specs.Level.{least_of}
use Rattle.sound_reader.specs.declared.settings.SoundSettings.{SoundSettings}
use Rattle.sound_reader.specs.declared.slicer_settings.SlicerSettings.{SlicerSettings}
use Rattle.tc_address.specs.declared.system.System.{System}
use Rattle.tc_address.specs.declared.system.System.TheVariants.{F24, F25, F30}
use Rattle.tape_reader.specs.declared.settings.TapeSettings.{TapeSettings}
use Rattle.direction_reader.specs.declared.witness.Witness.{Witness}
use Rattle.direction_reader.specs.declared.witness.Witness.TheVariants.{NotAsked, Asked, Consecutive, Counted}
use Rattle.tc_c.specs.declared.settings.TcSettings.{TcSettings}
use Rattle.tc_c.specs.declared.slicer_settings.TcSlicerSettings.{TcSlicerSettings}
use Rattle.tc_c.specs.declared.tape_settings.TcTapeSettings.{TcTapeSettings}

-- a system by its frames a second
abbrev pub system_number : System → ℕ
system_number F24 = 24
system_number F25 = 25
system_number F30 = 30

-- a tolerance
abbrev pub tolerance_number : Profile → ℕ
tolerance_number Normal = 0
tolerance_number Worn = 1
tolerance_number Rough = 2

-- whether a threshold follows the level, and how
abbrev pub follows_number : Threshold → ℕ
follows_number (Fixed threshold) = 0
follows_number (Follow least) = 1
follows_number (Deep least) = 2

-- the ticks of a piece, and 0 where an interval is read when it has ended
abbrev pub pace_number : Pace → ℕ
pace_number Ended = 0
pace_number (Passing length) = length

-- where the first interval of a sound begins: at its first sample, or at its first crossing
abbrev pub start_number : Start → ℕ
start_number Tick = 0
start_number Crossing = 1

-- what a word is asked for, so that it is told
abbrev pub witness_number : Witness → ℕ
witness_number NotAsked = 0
witness_number Asked = 1
witness_number Consecutive = 2
witness_number Counted = 3

-- the numbers mean these settings
pub record Means (numbers : TcSettings) (s : SoundSettings) : Type 0 where
  pub system : system_number s.system ≡ numbers.system
  pub tolerance : tolerance_number s.profile ≡ numbers.tolerance
  pub follows : follows_number s.threshold ≡ numbers.follows
  pub threshold : least_of s.threshold ≡ numbers.threshold
  pub fineness : s.fineness ≡ numbers.fineness
  pub smooth : s.smooth ≡ numbers.smooth
  pub pace : pace_number s.pace ≡ numbers.pace

-- the numbers mean that a sound is sliced so
pub record MeansSlicer (numbers : TcSlicerSettings) (s : SlicerSettings) : Type 0 where
  pub follows : follows_number s.threshold ≡ numbers.follows
  pub threshold : least_of s.threshold ≡ numbers.threshold
  pub fineness : s.fineness ≡ numbers.fineness
  pub smooth : s.smooth ≡ numbers.smooth
  pub pace : pace_number s.pace ≡ numbers.pace
  pub start : start_number s.start ≡ numbers.start

-- the numbers mean that a tape is read so
pub record MeansTape (numbers : TcTapeSettings) (s : TapeSettings) : Type 0 where
  pub system : system_number s.system ≡ numbers.system
  pub tolerance : tolerance_number s.profile ≡ numbers.tolerance
  pub firm : witness_number s.witness ≡ numbers.firm
