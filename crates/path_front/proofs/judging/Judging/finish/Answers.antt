use Rattle.std.proofs.Common.{◌≡◌, reverse, ap, subst, sym, ◌∙◌}
use Rattle.path_front.specs.declared.judging.Phase.TheVariants.{Sound}
use Rattle.path_front.specs.Cells.{measured_cells, CellsStandFor}
use Rattle.path_front.specs.Judging.{is_drain, CellsIn, JudgingState, JudgingStandFor}
use Rattle.path_front.proofs.JudgingNext.{same_ear, same_sounds}
use Rattle.path_front.proofs.judging.Judging.finish.Goals as goal

pub returns-clause-stands : goal.returns-clause-stands
returns-clause-stands c = λ samples judged stand_now.
    let i = c.self.inside in
    let stand = subst (λ s. JudgingStandFor s samples judged) (sym c.self.view_is) stand_now in
    let phase : i.phase ≡ Sound = ap (λ (s : JudgingState). s.phase) c.self.view_is ∙ c.requires.phase in
    let cells : CellsStandFor i.cells samples stand.given =
    subst (λ p. CellsIn p i.cells samples stand.given) phase stand.cells in
    let e = c.finish.ensures in
    record {
      given = stand.given;
      cells = e.stands samples stand.given cells;
      gate = stand.gate;
      ear = stand.ear ∙ same_ear i.cells c.finish.new.self e.same;
      order = stand.order
          ∙ ap (λ s. reverse (measured_cells s stand.given))
          (sym (same_sounds i.cells c.finish.new.self samples e.same));
      few = stand.few;
      eight = λ is some. stand.eight (ap is_drain phase) some;
    }
