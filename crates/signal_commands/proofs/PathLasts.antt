-- The file of a path is one alone, and its intervals last as long as the steps of the samples.
use Rattle.std.proofs.Common.{◌≡◌, ◌≤◌, ℕ, ◌+◌, ◌*◌, ℤ, List, None, length, sum, sym, ◌∙◌, ap, subst}
use Rattle.std.specs.Prelude.{reverse}
use Rattle.std.proofs.lemmas.List.{length-reverse}
use Rattle.interval_file.specs.Grammar.{file_of}
use Rattle.step_grid.specs.declared.grid.Grid.{Grid}
use Rattle.path_front.specs.Front.{AreIntervals}
use Rattle.step_grid.specs.Grid.{AreStepsOf, IsGrid}
use Rattle.path_front.specs.Steps.{sounds_of}
use Rattle.pcm_front.specs.Samples.{samples_of}
use Rattle.tc_command.specs.Command.{IsCommand}
use Rattle.tc_command.specs.Told.{IsLawful, KeepsPromise}
use Rattle.tc_io.specs.Bytes.{AreBytes}
use Rattle.tc_job.specs.PathSlicing.{IsPathSlicing, SlicesPath}
use Rattle.signal_commands.specs.PcmLtc.{odd_fault}
use Rattle.signal_commands.specs.PcmPath.{along_path, path_header, told_pcm_path, IsPathFile, TellsThePath}
use Rattle.signal_commands.proofs.SoundCovered.{all_bytes, even, AreOfSamples}

-- what the laws of the front say of the intervals of a sound
pub record LastsLaws : Type 0 where
  pub one : (grid : Grid) (ticks least : ℕ) (samples : List ℤ) (intervals others : List ℕ)
      → AreIntervals grid ticks least samples intervals → AreIntervals grid ticks least samples others
      → intervals ≡ others
  pub long : (grid : Grid) (ticks least : ℕ) (samples : List ℤ) (intervals : List ℕ) → 2 ≤ ticks
      → AreIntervals grid ticks least samples intervals
      → (sum intervals ≤ ticks * length (sounds_of grid least samples))
      × (ticks * length (sounds_of grid least samples) ≤ sum intervals + 24 * ticks)
  pub steps : (grid : Grid) (least : ℕ) (samples : List ℤ) → IsGrid grid
      → AreStepsOf grid (length samples) (length (sounds_of grid least samples))

path_is_told_of : LastsLaws → AreOfSamples → (p : SlicesPath) → IsPathSlicing p → (bytes written : List ℕ)
    → AreBytes bytes → odd_fault bytes ≡ None → IsPathFile p (samples_of bytes) written
    → TellsThePath p bytes written
path_is_told_of laws back p is bytes written are end path =
    let samples = reverse (samples_of bytes) in
    let long = laws.long p.grid p.ticks p.least samples path.intervals is.least_ticks path.are in
    record {
      path = path;
      alone = λ other file.
          file.file ∙ ap (file_of (path_header p))
          (laws.one p.grid p.ticks p.least samples file.intervals path.intervals file.are path.are) ∙ sym path.file;
      samples = sym (back bytes (all_bytes bytes are) (even bytes end));
      steps = length (sounds_of p.grid p.least samples);
      steps_are = subst (λ (n : ℕ). AreStepsOf p.grid n (length (sounds_of p.grid p.least samples)))
          (length-reverse (samples_of bytes)) (laws.steps p.grid p.least samples is.grid);
      most = long.0;
      least = long.1;
    }

pub path_is_lawful : ((p : SlicesPath) → IsCommand (along_path p)) → (p : SlicesPath) → IsLawful (told_pcm_path p)
path_is_lawful commands p = record {
  command = commands p;
  pinned = λ pulled a b one two. two.alone a one.path;
  unlimited = λ none input spent. spent;
}

pub path_is_kept : LastsLaws → AreOfSamples → (p : SlicesPath) → IsPathSlicing p → KeepsPromise (told_pcm_path p)
path_is_kept laws back p is = λ pulled written are input output.
    path_is_told_of laws back p is pulled written are input.end output
