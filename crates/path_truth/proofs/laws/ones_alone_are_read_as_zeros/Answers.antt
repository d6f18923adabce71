use Rattle.std.proofs.Common.{◌≡◌, rules}
use Rattle.cell_path.specs.declared.lengths.TheConstants.{LENGTHS}
use Rattle.cell_path.specs.Lengths.{length_in}
use Rattle.path_truth.specs.Sides.{KeepsItsSides}
use Rattle.path_truth.specs.Tape.{IsSteady}
use Rattle.path_truth.specs.Lost.{ambiguous, as_a_one, as_zeros}
use Rattle.path_truth.proofs.BestIsTape.{best_is_tape, tape_is_best}
use Rattle.path_truth.proofs.laws.ones_alone_are_read_as_zeros.Goals as goal

steady : IsSteady 0 as_zeros
steady = search rules

keeps : KeepsItsSides (length_in LENGTHS 0) ambiguous as_zeros
keeps = search rules

-- the one has another length than the zeros
not_zeros : as_a_one ≡ as_zeros → ⊥
not_zeros same = cc

pub returns-clause-read : goal.returns-clause-read
returns-clause-read c = tape_is_best c.cells_are_decided_of_each_sound.ensures.best 0 as_zeros ambiguous steady keeps

pub returns-clause-lost : goal.returns-clause-lost
returns-clause-lost c = λ best. not_zeros (best_is_tape 0 as_zeros as_a_one ambiguous steady keeps best)
