use Rattle.std.proofs.Common.{◌≤◌, arith, ap}
use Rattle.cell_path.specs.KeptMarks.{MarksState}
use Rattle.cell_path.proofs.GoesBack.{undone_marks}
use Rattle.cell_path.proofs.marks.Marks.undo.Goals as goal

pub invariant_of-self : goal.invariant_of-self
invariant_of-self c =
    let same = ap (λ (s : MarksState). s.count) c.self.view_is in
    let few : c.args.count ≤ c.self.inside.count = omega (arith, same, c.requires) in
    undone_marks (record { ring = c.self.inside.ring; count = c.self.inside.count }) c.args.count few c.self.invariant
