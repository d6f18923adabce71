use Rattle.std.proofs.Common.{rules}
use Rattle.cell_path.specs.declared.lengths.TheConstants.{LENGTHS}
use Rattle.cell_path.specs.Lengths.{length_in}
use Rattle.path_truth.specs.Sides.{KeepsItsSides}
use Rattle.path_truth.specs.Tape.{IsSteady}
use Rattle.path_truth.specs.Worked.{noisy, noisy_tape}
use Rattle.path_truth.proofs.BestIsTape.{tape_is_best}
use Rattle.path_truth.proofs.laws.a_noisy_sound_is_read.Goals as goal

pub returns-clause-read : goal.returns-clause-read
returns-clause-read c =
    let steady : IsSteady 0 noisy_tape = search rules in
    let keeps : KeepsItsSides (length_in LENGTHS 0) noisy noisy_tape = search rules in
    tape_is_best c.cells_are_decided_of_each_sound.ensures.best 0 noisy_tape noisy steady keeps
