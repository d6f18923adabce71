use Rattle.cell_path.proofs.GoesBack.{no_marks_yet}
use Rattle.cell_path.proofs.marks.Marks.new.Goals as goal

pub invariant_of-result : goal.invariant_of-result
invariant_of-result c = no_marks_yet
