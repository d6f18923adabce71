-- A sound whose tape has an early zero is decided whole.
use Rattle.std.proofs.Common.{◌≡◌, ℕ, ◌*◌, ℤ, List, length, ◌∙◌}
use Rattle.cell_path.specs.declared.cell.Cell.{Cell}
use Rattle.cell_path.specs.declared.lengths.TheConstants.{LENGTHS}
use Rattle.cell_path.specs.Lengths.{length_in}
use Rattle.path_front.specs.Steps.{path_steps, sounds_of}
use Rattle.step_grid.specs.declared.grid.Grid.TheVariants.{Repeat}
use Rattle.path_truth.specs.Early.{HasAnEarlyZero}
use Rattle.path_truth.specs.Sound.{IsSoundOf}
use Rattle.path_truth.proofs.DecidedTape.{decided-tape}
use Rattle.path_truth.proofs.SoundIntervals.{IsDecidedWhole}
use Rattle.path_truth.proofs.SoundLength.{sounds-length, steps-length}
use Rattle.path_truth.proofs.SoundSides.{sound_keeps}

pub many-steps : (repeats least : ℕ) (samples : List ℤ)
    → length (path_steps (sounds_of (Repeat repeats) least samples)) ≡ length samples * repeats
many-steps repeats least samples =
    steps-length (sounds_of (Repeat repeats) least samples) ∙ sounds-length repeats least samples

pub decided_sound : (place : ℕ) (tape : List Cell) (repeats least low high : ℕ) (samples : List ℤ)
    → IsSoundOf place tape repeats least low high samples → HasAnEarlyZero (length_in LENGTHS place) tape
    → IsDecidedWhole (path_steps (sounds_of (Repeat repeats) least samples)) tape
decided_sound place tape repeats least low high samples is early all are =
    decided-tape place tape (path_steps (sounds_of (Repeat repeats) least samples)) all is.steady
    (sound_keeps place tape repeats least low high samples is) early are
