use Rattle.std.proofs.Common.{IfSome, subst, sym, ◌∙◌}
use Rattle.path_front.specs.Judging.{GivesJudged, JudgingState}
use Rattle.path_front.proofs.JudgingNext.{drained_if, judging}
use Rattle.path_front.proofs.judging.Judging.drain.Goals as goal

pub returns-then-is_drain-clause-gives : goal.returns-then-is_drain-clause-gives
returns-then-is_drain-clause-gives c =
    let i = c.self.inside in
    let e = c.drain.ensures in
    subst (λ (s : JudgingState). IfSome c.drain.result (λ answer. GivesJudged s (judging i.cells c.drain.new.self
    i.phase) answer)) c.self.view_is
    (drained_if i.phase i.cells i.gate c.drain.new.self c.drain.result (sym c.is_drain.ensures ∙ c.if-is_drain.true)
    e.ear e.room e.front e.cell e.judges)
