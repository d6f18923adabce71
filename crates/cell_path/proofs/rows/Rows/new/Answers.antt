use Rattle.cell_path.proofs.NextStep.{fresh_rows, fresh_stand}
use Rattle.cell_path.proofs.rows.Rows.new.Goals as goal

pub invariant_of-result : goal.invariant_of-result
invariant_of-result c =
    fresh_rows c.no_numbers.result c.no_numbers-2.result c.no_numbers.ensures.ring c.no_numbers-2.ensures.ring

pub returns-clause-stands : goal.returns-clause-stands
returns-clause-stands c =
    let a = c.no_numbers.ensures in
    let b = c.no_numbers-2.ensures in
    fresh_stand c.no_numbers.result c.no_numbers-2.result a.here b.here a.early b.early
