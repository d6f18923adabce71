use Rattle.std.proofs.Common.{◌≡◌, ◌+◌, ◌<◌, ◌≤◌, true, subst, sym, ◌∙◌, arith}
use Rattle.flywheel.specs.Wheel.{wheel_of, has_frame_due}
use Rattle.flywheel.specs.StandsFor.{StandsFor}
use Rattle.flywheel.proofs.GivenSoFar.{after_invented, after_gone, frame_is}
use Rattle.flywheel.proofs.wheel.Flywheel.passed.Goals as goal

-- nothing is due, so all was given
pub returns-then-not-due-clause-stands : goal.returns-then-not-due-clause-stands
returns-then-not-due-clause-stands c = λ words earlier given stands h.
    c.due.ensures.stands words earlier given stands h c.if-not-due.true

-- one frame more is due, within the limit
pub returns-then-step-from-clause-stands : goal.returns-then-step-from-clause-stands
returns-then-step-from-clause-stands c = λ words earlier given stands h.
    let has = subst (λ wheel. StandsFor wheel words earlier given) (sym c.self.view_is) stands in
    let due_now : has_frame_due c.args.self.now c.args.tick ≡ true = sym c.due.ensures.value ∙ c.if-not-due.false in
    let due = subst (λ wheel. has_frame_due wheel c.args.tick ≡ true) (sym c.self.view_is) due_now in
    let within : c.self.inside.invented + 1 ≤ c.self.inside.limit = omega arith in
    let is_new = c.self-then-step-from.view_is ∙ c.since.ensures in
    after_invented (wheel_of c.self.inside.limit c.self.inside.reference c.self.inside.invented) _ c.in_ok-word.word
    words earlier c.args.tick given _
    has h c.in_ok-word.was due within is_new
    (frame_is c.in_ok-word.word (c.self.inside.invented + 1) _ _ c.label_after.ensures c.tick_after.ensures.value)

-- one frame more is due than the limit
pub returns-else-step-from-clause-stands : goal.returns-else-step-from-clause-stands
returns-else-step-from-clause-stands c = λ words earlier given stands h.
    let has = subst (λ wheel. StandsFor wheel words earlier given) (sym c.self.view_is) stands in
    let due_now : has_frame_due c.args.self.now c.args.tick ≡ true = sym c.due.ensures.value ∙ c.if-not-due.false in
    let due = subst (λ wheel. has_frame_due wheel c.args.tick ≡ true) (sym c.self.view_is) due_now in
    let over : c.self.inside.limit < c.self.inside.invented + 1 = omega arith in
    let is_new = c.self-else-step-from.view_is ∙ c.new.ensures.value in
    after_gone (wheel_of c.self.inside.limit c.self.inside.reference c.self.inside.invented) _ c.in_ok-word.word words
    earlier c.args.tick given _
    has c.in_ok-word.was due over is_new c.tick_after-else-step-from.ensures.value
