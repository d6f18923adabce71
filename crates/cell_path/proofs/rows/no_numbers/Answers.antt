use Rattle.cell_path.proofs.NextStep.{fresh_early, fresh_is_ring}
use Rattle.cell_path.proofs.rows.no_numbers.Goals as goal

pub returns-clause-ring : goal.returns-clause-ring
returns-clause-ring c = fresh_is_ring

pub returns-clause-early : goal.returns-clause-early
returns-clause-early c = fresh_early
