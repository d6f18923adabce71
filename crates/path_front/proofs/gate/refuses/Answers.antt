use Rattle.std.proofs.Common.{◌≡◌, ◌||◌, ap, sym, ◌∙◌}
use Rattle.path_front.specs.Bend.{bends}
use Rattle.path_front.specs.Fit.{is_misfit, usual}
use Rattle.path_front.specs.Levels.{is_faint}
use Rattle.path_front.proofs.GateJudges.{or_first, or_second, refused_is}
use Rattle.path_front.proofs.gate.refuses.Goals.{then-is_faint, else-is_faint}
use Rattle.path_front.proofs.gate.refuses.Goals as goal

pub returns-else-is_misfit : goal.returns-else-is_misfit
returns-else-is_misfit c =
    let a = c.args in
    let range = c.range_of-range.result in
    let previous = c.in-Some.previous.now in
    let faint = is_faint a.ear.least range.least previous a.cell.now in
    let misfit = is_misfit range.most (usual range.most a.before.now a.behind.now) a.cell.now in
    let bent = bends a.ear.grain a.before.now a.cell.now a.behind.now in
    let either : c.if-is_faint.value ≡ faint || misfit = elim c.if-is_faint.branch [
      | then-is_faint w ↦ or_first faint misfit c.if-is_faint.value (sym c.is_faint.ensures ∙ w.if-is_faint.true)
          (w.value-is ∙ w.if-is_faint.true)
      | else-is_faint w ↦ or_second faint misfit c.if-is_faint.value (sym c.is_faint.ensures ∙ w.if-is_faint.false)
          (w.value-is ∙ w.is_misfit.ensures ∙ ap (λ u. is_misfit range.most u a.cell.now) w.usual.ensures.value)
    ] in
    refused_is a.ear previous a.before.now a.cell.now a.behind.now range c.bends.result (sym c.in-Some.ensures.value)
    c.range_of-range.ensures.value
    (or_second c.if-is_faint.value bent c.bends.result c.if-is_misfit.false c.bends.ensures
    ∙ ap (λ v. v || bent) either)
