-- What a sound keeps as a listener that looks for its best path. No promise speaks of it.
use Rattle.std.specs.Prelude.{◌≡◌, ⊤, ℕ, ◌^◌, ◌≤◌, ℤ, List, length, reverse, Option, Some, None}
use Rattle.std.proofs.Common.{subst, sym}
use Rattle.interval_file.specs.Grammar.{file_of}
use Rattle.path_front.specs.Front.{AreIntervalsSoFar, FrontState, FrontStandsFor, IsAllGiven, IsGivenSoFar}
use Rattle.path_front.specs.Front.{IsReady}
use Rattle.tc_job.specs.PathSlicing.{SlicesPath}
use Rattle.tc_job.specs.TrackPath.{least_rate_of, sound_of}
use Rattle.wave_file.specs.declared.format.WaveFormat.{WaveFormat}
use Rattle.signal_commands.specs.declared.path_sound.PathSound.{PathSound}
use Rattle.signal_commands.specs.declared.path_sound.PathWords.{PathWords}
use Rattle.signal_commands.specs.declared.path_sound.PathWords.TheVariants.{Raw, Track}
use Rattle.signal_commands.specs.KeptListening.{ListenerKind}
use Rattle.signal_commands.specs.PcmPath.{path_header, IsPathFile, IsPathFileSoFar}
use Rattle.signal_commands.specs.WavPath.{WritesPath, WritesPathSoFar}

-- how many samples it was given
abbrev pub samples_heard : PathSound → ℕ
samples_heard s = s.front.judging.cells.steps.clip.count

-- the front is that of the words
pub record IsOfWords (s : PathSound) : Type 0 where
  pub grid : s.front.judging.cells.steps.grid ≡ s.path.grid
  pub ticks : s.front.ticks ≡ s.path.ticks
  pub least : s.front.judging.cells.steps.hold.least ≡ s.path.least

-- and it has given all that they bring
pub record IsGoing (s : PathSound) : Type 0 where
  pub words : IsOfWords s
  pub ready : IsReady s.front

-- all intervals that it has were given
pub record HasGiven (front : FrontState) (samples : List ℤ) (given : List ℕ) : Type 0 where
  pub stands : FrontStandsFor front samples given
  pub all : IsAllGiven front samples given
  pub so_far : IsGivenSoFar front samples given

-- it was given these samples, in their order; what was written is the header and the intervals that they bring
pub record HearsSamples (s : PathSound) (samples : List ℤ) (written : List ℕ) : Type 0 where
  pub count : samples_heard s ≡ length samples
  pub given : List ℕ
  pub front : FrontStandsFor s.front (reverse samples) given
  pub so_far : AreIntervalsSoFar s.path.grid s.path.ticks s.path.least (reverse samples) given
  pub are : written ≡ file_of (path_header s.path) given

-- what was written is the file of the intervals so far
file_so_far : (s : PathSound) (samples : List ℤ) (written : List ℕ) → HearsSamples s samples written
    → IsPathFileSoFar s.path samples written
file_so_far s samples written hears =
    record { intervals = hears.given; are = hears.so_far; file = hears.are }

so_far_by : (s : PathSound) (path : SlicesPath) (samples : List ℤ) (written : List ℕ)
    → Some path ≡ Some s.path → IsPathFileSoFar s.path samples written → IsPathFileSoFar path samples written
so_far_by s path samples written same file =
    let is : path ≡ s.path = cc in subst (λ (p : SlicesPath). IsPathFileSoFar p samples written) (sym is) file

-- ---- the words

-- the sound whose path is looked for
abbrev pub path_of : PathWords → Option WaveFormat → Option SlicesPath
path_of (Raw path) format = Some path
path_of (Track track) None = None
path_of (Track track) (Some format) = sound_of track format.rate

-- a track has one from its least rate on
abbrev pub FitsPath : PathWords → Option WaveFormat → Type 0
FitsPath (Raw path) format = ⊤
FitsPath (Track track) None = ⊥
FitsPath (Track track) (Some format) =
    (1 ≤ format.rate) × (least_rate_of track.system ≤ format.rate) × (format.rate ≤ 6_250_000)

-- what is written of it before its end, and of all of it
abbrev pub IsSoFar : PathWords → Option WaveFormat → List ℤ → List ℕ → Type 0
IsSoFar (Raw path) format samples written = IsPathFileSoFar path samples written
IsSoFar (Track track) format samples written = WritesPathSoFar track format samples written

abbrev pub IsWhole : PathWords → Option WaveFormat → List ℤ → List ℕ → Type 0
IsWhole (Raw path) format samples written = IsPathFile path samples written
IsWhole (Track track) format samples written = WritesPath track format samples written

-- ---- the listener

pub record HearsPath (s : PathSound) (words : PathWords) (format : Option WaveFormat) (samples : List ℤ)
    (written : List ℕ) : Type 0 where
  pub path : path_of words format ≡ Some s.path
  pub going : IsGoing s
  pub hears : HearsSamples s samples written

abbrev pub path_kind : ListenerKind PathSound PathWords
path_kind = record { so_far = IsSoFar; whole = IsWhole; fits = FitsPath; most = 2 ^ 37; hears = HearsPath }

pub path_well : (s : PathSound) (words : PathWords) (format : Option WaveFormat) (samples : List ℤ) (written : List ℕ)
    → HearsPath s words format samples written → IsSoFar words format samples written
path_well s (Raw path) format samples written hears =
    so_far_by s path samples written hears.path (file_so_far s samples written hears.hears)
path_well s (Track track) None samples written hears = let none = hears.path in absurd cc
path_well s (Track track) (Some format) samples written hears = record {
  path = s.path;
  sound = hears.path;
  file = file_so_far s samples written hears.hears;
}
