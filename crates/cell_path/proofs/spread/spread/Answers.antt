use Rattle.std.proofs.Common.{◌≡◌, ◌/◌, ◌%◌, ap, ◌∙◌}
use Rattle.cell_path.specs.declared.mark.FourMarks.{FourMarks}
use Rattle.cell_path.specs.declared.mark.StepMarks.{StepMarks}
use Rattle.cell_path.specs.Four.{at_step}
use Rattle.cell_path.specs.Marks.{sign_from}
use Rattle.cell_path.specs.Started.{marks_of}
use Rattle.cell_path.proofs.Lowest.{at_each_step}
use Rattle.cell_path.proofs.spread.spread.Goals as goal

-- the marks before a length has been put in
abbrev first : goal.After-fill → FourMarks
first c = record {
  first = c.no_marks_yet.result;
  second = c.no_marks_yet-2.result;
  third = c.no_marks_yet-3.result;
  fourth = c.no_marks_yet-4.result;
}

pub returns-clause-marks : goal.returns-clause-marks
returns-clause-marks c = c.fill.ensures.all.marks

pub returns-clause-places : goal.returns-clause-places
returns-clause-places c = λ step few.
    c.fill.ensures.all.best.places step
    ∙ at_each_step (λ s. (marks_of (first c) s).best_place ≡ at_step c.args.best s / 2)
    (ap (λ (m : StepMarks). m.best_place) c.no_marks_yet.ensures)
    (ap (λ (m : StepMarks). m.best_place) c.no_marks_yet-2.ensures)
    (ap (λ (m : StepMarks). m.best_place) c.no_marks_yet-3.ensures)
    (ap (λ (m : StepMarks). m.best_place) c.no_marks_yet-4.ensures) step few

pub returns-clause-signs : goal.returns-clause-signs
returns-clause-signs c = λ step few.
    c.fill.ensures.all.best.signs step
    ∙ at_each_step (λ s. (marks_of (first c) s).best_sign ≡ sign_from (at_step c.args.best s % 2))
    (ap (λ (m : StepMarks). m.best_sign) c.no_marks_yet.ensures)
    (ap (λ (m : StepMarks). m.best_sign) c.no_marks_yet-2.ensures)
    (ap (λ (m : StepMarks). m.best_sign) c.no_marks_yet-3.ensures)
    (ap (λ (m : StepMarks). m.best_sign) c.no_marks_yet-4.ensures) step few
