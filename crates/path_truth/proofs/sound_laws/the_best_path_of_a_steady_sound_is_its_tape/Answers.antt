use Rattle.std.proofs.Common.{ap, ◌∙◌}
use Rattle.cell_path.specs.Decided.{placed}
use Rattle.step_grid.specs.declared.grid.Grid.TheVariants.{Repeat}
use Rattle.path_front.specs.Steps.{path_steps, sounds_of}
use Rattle.path_truth.proofs.BestIsTape.{best_is_tape, tape_is_best}
use Rattle.path_truth.proofs.DecidedSound.{decided_sound, many-steps}
use Rattle.path_truth.proofs.SoundSides.{sound_keeps}
use Rattle.path_truth.proofs.sound_laws.the_best_path_of_a_steady_sound_is_its_tape.Goals as goal

pub returns-clause-best : goal.returns-clause-best
returns-clause-best c = λ place tape repeats least low high samples is.
    tape_is_best c.cells_are_decided_of_each_sound.ensures.best place tape
    (path_steps (sounds_of (Repeat repeats) least samples)) is.steady
    (sound_keeps place tape repeats least low high samples is)

pub returns-clause-only : goal.returns-clause-only
returns-clause-only c = λ place tape path repeats least low high samples is best.
    best_is_tape place tape path (path_steps (sounds_of (Repeat repeats) least samples)) is.steady
    (sound_keeps place tape repeats least low high samples is) best

pub returns-clause-decided : goal.returns-clause-decided
returns-clause-decided c = λ place tape repeats least low high samples all is early are.
    decided_sound place tape repeats least low high samples is early all are
    ∙ ap (λ n. placed n tape) (many-steps repeats least samples)
