use Rattle.std.proofs.Common.{subst, sym, ◌∙◌, ◌≤◌, IfSome}
use Rattle.flywheel.specs.StandsFor.{StandsFor, HasGivenAll}
use Rattle.flywheel.specs.Wheel.{Wheel}
use Rattle.flywheel.proofs.DueInOrder.{first_due}
use Rattle.flywheel.proofs.GivenSoFar.{waits}
use Rattle.flywheel.proofs.wheel.Flywheel.due.Goals as goal

-- if the first tick at which a frame is due lies ahead, all were given
pub returns-clause-stands : goal.returns-clause-stands
returns-clause-stands c = λ words earlier given stands h late.
    let has = subst (λ wheel. StandsFor wheel words earlier given) (sym c.self.view_is) stands in
    let behind = subst (λ (wheel : Wheel). IfSome wheel.reference (λ word. word.tick ≤ c.args.tick))
    (sym c.self.view_is) c.requires.not_before in
    let over = sym (first_due _ _ _ c.args.tick c.self.invariant.due behind c.requires.below) ∙ late in
    subst (λ wheel. HasGivenAll wheel words c.args.tick given) c.self.view_is
    (waits c.self.inside.limit c.self.inside.reference c.self.inside.invented words earlier c.args.tick given has h
    over)
