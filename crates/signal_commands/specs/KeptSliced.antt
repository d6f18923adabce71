-- What a sliced sound keeps as a listener. No promise speaks of it.
use Rattle.std.specs.Prelude.{◌≡◌, ⊤, ℕ, ◌^◌, ◌≤◌, ℤ, List, ◌++◌, Option, Some, None}
use Rattle.std.proofs.Common.{◌∙◌, ap₂, refl, sym}
use Rattle.interval_file.specs.declared.header.FileVersion.TheVariants.{One}
use Rattle.interval_file.specs.declared.header.IntervalHeader.{IntervalHeader}
use Rattle.interval_file.specs.Grammar.{intervals_bytes}
use Rattle.interval_file.specs.IntervalHeader.{header_bytes}
use Rattle.pcm_front.specs.declared.pace.Pace.{Pace}
use Rattle.pcm_front.specs.Pace.{intervals_at, IsPace}
use Rattle.pcm_front.specs.Settings.{Settings}
use Rattle.pcm_front.specs.StandsFor as pcm
use Rattle.pcm_front.specs.StandsFor.{settings_of}
use Rattle.tc_job.specs.Pace.{pace_of}
use Rattle.wave_file.specs.declared.format.WaveFormat.{WaveFormat}
use Rattle.signal_commands.specs.declared.sliced.Cut.{Cut}
use Rattle.signal_commands.specs.declared.sliced.Cut.TheVariants.{Raw, Track}
use Rattle.signal_commands.specs.declared.sliced.SlicedSound.{SlicedSound}
use Rattle.signal_commands.specs.KeptListening.{ListenerKind}
use Rattle.signal_commands.specs.PcmLtc.{pace_for, settings_for, sliced, sliced_header}
use Rattle.signal_commands.specs.WavLtc.{track_file, track_header, track_settings}

-- the bytes of the intervals of samples
abbrev pub spelled : Pace → Settings → List ℤ → List ℕ
spelled pace s samples = intervals_bytes One (intervals_at pace s samples)

-- more samples bring these bytes
abbrev pub AreDue : Pace → Settings → List ℤ → List ℤ → List ℕ → Type 0
AreDue pace s front more due = spelled pace s (front ++ more) ≡ spelled pace s front ++ due

-- ---- what is cut

abbrev pub cut_settings : Cut → Settings
cut_settings (Raw s) = settings_for s
cut_settings (Track w) = track_settings w

-- at this many ticks a second
abbrev pub cut_pace : Cut → ℕ → Pace
cut_pace (Raw s) tick_rate = pace_for s
cut_pace (Track w) tick_rate = pace_of w.live w.system tick_rate

-- raw samples have the rate that the words say, a sound file its own
abbrev pub FitsCut : Cut → Option WaveFormat → Type 0
FitsCut (Raw s) format = ⊤
FitsCut (Track w) None = ⊥
FitsCut (Track w) (Some format) = (1 ≤ format.rate) × (format.rate ≤ 6_250_000)

abbrev pub cut_header : Cut → Option WaveFormat → IntervalHeader
cut_header (Raw s) format = sliced_header s
cut_header (Track w) (Some format) = track_header w format
cut_header (Track w) None = record { version = One; system = w.system; tick_rate = 0 }

abbrev pub cut_file : Cut → Option WaveFormat → List ℤ → List ℕ
cut_file (Raw s) format samples = sliced s samples
cut_file (Track w) format samples = track_file w format samples

-- it is that of the intervals
pub cut_file_is : (cut : Cut) (format : Option WaveFormat) (samples : List ℤ) → FitsCut cut format
    → cut_file cut format samples ≡ header_bytes (cut_header cut format)
    ++ spelled (cut_pace cut (cut_header cut format).tick_rate) (cut_settings cut) samples
cut_file_is (Raw s) format samples fits = refl
cut_file_is (Track w) (Some format) samples fits = refl
cut_file_is (Track w) None samples fits = absurd fits

-- ---- the listener

-- it was given these samples, and wrote the file of their intervals
pub record HearsCut (s : SlicedSound) (cut : Cut) (format : Option WaveFormat) (samples : List ℤ) (written : List ℕ)
    : Type 0 where
  pub fits : FitsCut cut format
  pub settings : settings_of s.slicer ≡ cut_settings cut
  pub fine : (settings_of s.slicer).fineness ≤ 64
  pub pace : s.pace ≡ cut_pace cut (cut_header cut format).tick_rate
  pub is_pace : IsPace s.pace
  pub stands : pcm.StandsFor s.slicer samples
  pub are : written ≡ header_bytes (cut_header cut format) ++ spelled s.pace (settings_of s.slicer) samples

abbrev pub sliced_kind : ListenerKind SlicedSound Cut
sliced_kind = record {
  so_far = λ cut format samples written. written ≡ cut_file cut format samples;
  whole = λ cut format samples written. written ≡ cut_file cut format samples;
  fits = FitsCut;
  most = 2 ^ 40;
  hears = HearsCut;
}

pub sliced_well : (s : SlicedSound) (cut : Cut) (format : Option WaveFormat) (samples : List ℤ) (written : List ℕ)
    → HearsCut s cut format samples written → written ≡ cut_file cut format samples
sliced_well s cut format samples written hears =
    hears.are ∙ ap₂ (λ (p : Pace) (how : Settings). header_bytes (cut_header cut format) ++ spelled p how samples)
    hears.pace hears.settings ∙ sym (cut_file_is cut format samples hears.fits)
