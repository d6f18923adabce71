use Rattle.std.proofs.Common.{rules}
use Rattle.path_truth.specs.Lost.{free_tape, odd_tape, silent_tape}
use Rattle.path_truth.specs.Tape.{IsSteady}
use Rattle.path_truth.proofs.Beaten.{free_lost, odd_lost, silent_lost}
use Rattle.path_truth.proofs.laws.each_premise_is_needed.Goals as goal

pub returns-clause-even : goal.returns-clause-even
returns-clause-even c = let steady : IsSteady 1 odd_tape = search rules in (steady, odd_lost)

pub returns-clause-side : goal.returns-clause-side
returns-clause-side c = let steady : IsSteady 0 silent_tape = search rules in (steady, silent_lost)

pub returns-clause-level : goal.returns-clause-level
returns-clause-level c = let steady : IsSteady 4 free_tape = search rules in (steady, free_lost)
