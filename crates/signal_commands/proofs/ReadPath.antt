-- A step has from 2 to 65,536 ticks, so each interval of a path can be said, and its file is one that is read.
use Rattle.std.proofs.Common.{◌≡◌, ℕ, ◌*◌, ◌≤◌, ℤ, Bool, true, false, List, [], ◌∷◌, length, reverse}
use Rattle.std.proofs.Common.{Option, Some, None}
use Rattle.std.proofs.Common.{refl, subst, arith}
use Rattle.std.specs.Prelude.{nat_le, ◌&&◌, if◌then◌else◌}
use Rattle.std.specs.List.{All}
use Rattle.std.specs.Option.{option_map}
use Rattle.std.proofs.lemmas.Bool.{and_parts}
use Rattle.std.proofs.lemmas.Bool.Decides.{nat_tests}
use Rattle.std.proofs.lemmas.List.Elements.{All-head, All-tail}
use Rattle.std.proofs.Math.Nat.{mul-le-mul}
use Rattle.interval_file.specs.declared.header.IntervalHeader.{IntervalHeader}
use Rattle.interval_file.specs.Grammar.{AreIntervals as AreInRange, IsFile}
use Rattle.interval_file.specs.IntervalHeader.{IsTickRate}
use Rattle.interval_file.specs.Recording.{end_fault_of, recording_of}
use Rattle.limits.specs.declared.recording.TheConstants.{MAX_INTERVALS}
use Rattle.path_front.specs.Front.{AreIntervals}
use Rattle.pcm_front.specs.Samples.{samples_of}
use Rattle.step_grid.specs.declared.grid.Grid.{Grid}
use Rattle.tc_address.specs.declared.system.System.{System}
use Rattle.tc_address.specs.declared.system.System.TheVariants.{F24, F25, F30}
use Rattle.tc_io.specs.Verdict.{good}
use Rattle.tc_job.specs.PathGrid.{first_fit, grid_for, grids, is_fit, step_ticks}
use Rattle.tc_job.specs.PathSlicing.{path_slicing_of, IsPathSlicing, SlicesPath}
use Rattle.tc_job.specs.TrackPath.{least_rate_of, sound_on, SlicesTrackPath}
use Rattle.tc_command.specs.Meaning.{Meaning}
use Rattle.wave_file.specs.declared.format.Asked.{Asked}
use Rattle.wave_file.specs.declared.format.WaveFormat.{WaveFormat}
use Rattle.wave_file.specs.Wave.{reading_of}
use Rattle.signal_commands.specs.PathFile.{IsPathRead, IsReadAsAFile, IsTrackPathRead}
use Rattle.signal_commands.specs.PcmPath.{path_header, IsPathFile}
use Rattle.signal_commands.specs.WavPath.{along_track_path, asked_for_path, WritesPath}

-- what the laws of the path, of files and of sound files say
pub record PathLaws : Type 0 where
  pub said : (grid : Grid) (ticks least : ℕ) (samples : List ℤ) (intervals : List ℕ) → 2 ≤ ticks → ticks ≤ 65_536
      → AreIntervals grid ticks least samples intervals
      → All (λ interval. (1 ≤ interval) × (interval ≤ 16_777_215)) intervals
  pub files : (bytes : List ℕ) (header : IntervalHeader) (xs : List ℕ) → IsFile bytes header xs
      → length xs ≤ MAX_INTERVALS
      → (recording_of bytes ≡ record { header = Some header; intervals = xs; verdict = good })
      × (end_fault_of bytes ≡ None)
  pub rates : (asked : Asked) (bytes : List ℕ) (format : WaveFormat) → (reading_of asked bytes).format ≡ Some format
      → (asked.least_rate ≤ format.rate) × (format.rate ≤ 6_250_000)

-- the ticks of a step, and those of a second
record IsFitPath (p : SlicesPath) : Type 0 where
  least : 2 ≤ p.ticks
  most : p.ticks ≤ 65_536
  rate : IsTickRate (p.rate * p.fineness)

are_in_range : (xs : List ℕ) → All (λ interval. (1 ≤ interval) × (interval ≤ 16_777_215)) xs → AreInRange xs
are_in_range [] said = tt
are_in_range (x ∷ xs) said =
    let first = All-head (λ interval. (1 ≤ interval) × (interval ≤ 16_777_215)) x xs said in
    (first.0, first.1, are_in_range xs (All-tail (λ interval. (1 ≤ interval) × (interval ≤ 16_777_215)) x xs said))

read_as_a_file : PathLaws → (p : SlicesPath) (samples : List ℤ) (written : List ℕ) → IsFitPath p
    → IsPathFile p samples written → IsReadAsAFile p samples written
read_as_a_file laws p samples written fit is =
    let said = laws.said p.grid p.ticks p.least (reverse samples) is.intervals fit.least fit.most is.are in
    let file : IsFile written (path_header p) is.intervals =
    record { tick_rate = fit.rate; range = are_in_range is.intervals said; are = is.file } in
    record {
      intervals = is.intervals;
      are = is.are;
      file = file;
      read = laws.files written (path_header p) is.intervals file;
    }

-- ---- raw samples

fit_of : (p : SlicesPath) → IsPathSlicing p → IsFitPath p
fit_of p is =
    let some = mul-le-mul is.some_samples is.least in
    record {
      least = is.least_ticks;
      most = is.most_ticks;
      rate = (omega (arith, some), is.not_too_fast);
    }

pub path_is_read : PathLaws → (p : SlicesPath) (bytes written : List ℕ) → IsPathSlicing p
    → IsPathFile p (samples_of bytes) written → IsPathRead p bytes written
path_is_read laws p bytes written is file = read_as_a_file laws p (samples_of bytes) written (fit_of p is) file

-- ---- a track

abbrev in_range : Option ℕ → Bool
in_range None = true
in_range (Some ticks) = nat_le 2 ticks && nat_le ticks 65_536

abbrev all_in_range : List Grid → Bool
all_in_range [] = true
all_in_range (grid ∷ more) = in_range (step_ticks 16 grid) && all_in_range more

-- the first fit of some grids is one of them
found : (system : System) (rate : ℕ) (list : List Grid) (grid : Grid) → all_in_range list ≡ true
    → first_fit system rate list ≡ Some grid → in_range (step_ticks 16 grid) ≡ true
unfolding first_fit
found system rate [] grid all is = absurd cc
found system rate (first ∷ more) grid all is =
    let parts = and_parts (in_range (step_ticks 16 first)) (all_in_range more) all in
    found_by first grid (first_fit system rate more) (is_fit system rate first) parts.0
    (found system rate more grid parts.1) is
  where
    found_by : (first grid : Grid) (later : Option Grid) (b : Bool) → in_range (step_ticks 16 first) ≡ true
        → (later ≡ Some grid → in_range (step_ticks 16 grid) ≡ true) → (if b then Some first else later) ≡ Some grid
        → in_range (step_ticks 16 grid) ≡ true
    found_by first grid later true one others is =
        let same : first ≡ grid = cc in subst (λ g. in_range (step_ticks 16 g) ≡ true) same one
    found_by first grid later false one others is = others is

within : (ticks : ℕ) → in_range (Some ticks) ≡ true → (2 ≤ ticks) × (ticks ≤ 65_536)
within ticks is =
    let parts = and_parts (nat_le 2 ticks) (nat_le ticks 65_536) is in
    let low = parts.0 in let high = parts.1 in (grind (arith, nat_tests), grind (arith, nat_tests))

on_ticks : (t : SlicesTrackPath) (rate : ℕ) (grid : Grid) (ticks : Option ℕ) (p : SlicesPath) → 1 ≤ rate
    → rate ≤ 6_250_000 → in_range ticks ≡ true
    → option_map (λ n. path_slicing_of t.system rate t.least 16 grid n) ticks ≡ Some p → IsFitPath p
on_ticks t rate grid None p some most range is = absurd cc
on_ticks t rate grid (Some ticks) p some most range is =
    let same : path_slicing_of t.system rate t.least 16 grid ticks ≡ p = cc in
    let ends = within ticks range in
    subst IsFitPath same (record {
      least = ends.0;
      most = ends.1;
      rate = (omega (arith, some), omega (arith, most));
    })

on_grid : (t : SlicesTrackPath) (rate : ℕ) (grid : Option Grid) (p : SlicesPath) → 1 ≤ rate → rate ≤ 6_250_000
    → first_fit t.system rate grids ≡ grid → sound_on t rate grid ≡ Some p → IsFitPath p
on_grid t rate None p some most fit is = absurd cc
on_grid t rate (Some grid) p some most fit is =
    on_ticks t rate grid (step_ticks 16 grid) p some most (found t.system rate grids grid refl fit) is

some_samples : (system : System) → 1 ≤ least_rate_of system
some_samples F24 = omega arith
some_samples F25 = omega arith
some_samples F30 = omega arith

pub track_is_read : PathLaws → (t : SlicesTrackPath) (bytes written : List ℕ)
    → Meaning.output (along_track_path t) bytes written → IsTrackPathRead t bytes written
track_is_read laws t bytes written output = λ format begins.
    let r = reading_of (asked_for_path t) bytes in
    let rates = laws.rates (asked_for_path t) bytes format begins in
    let least = some_samples t.system in
    let grid = grid_for t.system format.rate in
    let is = subst (λ f. WritesPath t f r.samples written) begins output in (
      is.path,
      is.sound,
      read_as_a_file laws is.path r.samples written
          (on_grid t format.rate grid is.path (omega (arith, least, rates.0)) rates.1 refl is.sound)
          is.file,
    )
