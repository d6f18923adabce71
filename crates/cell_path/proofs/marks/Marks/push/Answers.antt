use Rattle.std.proofs.Common.{◌+◌, ◌<◌, ◌^◌, arith, ap, subst, sym}
use Rattle.cell_path.specs.KeptMarks.{MarksState, MarksStandFor}
use Rattle.cell_path.proofs.GoesBack.{marks_fed, still_marks}
use Rattle.cell_path.proofs.marks.Marks.push.Goals as goal

pub invariant_of-self : goal.invariant_of-self
invariant_of-self c =
    let same = ap (λ (s : MarksState). s.count) c.self.view_is in
    let room : c.self.inside.count < 2 ^ 40 + 4 = omega (arith, same, c.requires.room) in
    still_marks (record { ring = c.self.inside.ring; count = c.self.inside.count }) c.args.marks c.self.invariant
    c.requires.place room

pub returns-clause-stands : goal.returns-clause-stands
returns-clause-stands c = λ step steps stand marked.
    let kept : MarksState = record { ring = c.self.inside.ring; count = c.self.inside.count } in
    marks_fed kept c.args.marks step steps c.self.invariant.long
    (subst (λ m. MarksStandFor m steps) (sym c.self.view_is) stand) marked
