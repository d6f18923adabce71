use Rattle.std.proofs.Common.{[], ◌∷◌, ◌++◌, ◌<◌, ◌∙◌, ◌≡◌, ap, sym, subst, true, arith}
use Rattle.frame_commands.specs.KeptSteps.{HasFollowed, Stepping}
use Rattle.frame_commands.specs.declared.ltc_chase.TheConstants.{MAX_FRAMES}
use Rattle.frame_commands.proofs.StepsGrow.{TraceLaws, line_added, no_line_added}
use Rattle.frame_commands.proofs.StepsGrow.{not_followed, step_followed}
use Rattle.frame_commands.proofs.ltc_chase.StepLinesFrameSink.frame.Goals as goal

-- past the limit nothing is written
pub returns-then-self-eq-MAX_FRAMES-clause-sends : goal.returns-then-self-eq-MAX_FRAMES-clause-sends
returns-then-self-eq-MAX_FRAMES-clause-sends g c = λ run header frames given.
    let full : c.args.self.now.steps ≡ MAX_FRAMES = ap (λ (s : Stepping). s.steps) (sym c.self.view_is)
    ∙ c.if-self-eq-MAX_FRAMES.true in
    let frame = c.args.frame.now in (
      subst (λ (s : Stepping). HasFollowed MAX_FRAMES run (record s { is_spent = true }) (frames ++ frame ∷ []))
          (sym c.self.view_is)
          (not_followed MAX_FRAMES run c.args.self.now frames frame given full),
      (
        [],
        no_line_added MAX_FRAMES run c.args.self.now frames (frame ∷ []) given full,
        g.O.Output.given_none c.args.out.now,
      ),
    )

-- the line of the step was written
pub returns-clause-sends : goal.returns-clause-sends
returns-clause-sends g c = λ run header frames given.
    let law = c.a_frame_adds_a_line.ensures in
    let laws : TraceLaws = record { none = law.none; line = law.line; lines = law.lines } in
    let line = c.step-line.result.items in
    let few : c.args.self.now.steps < MAX_FRAMES =
    let below = c.self.invariant.steps in
    let apart = c.if-self-eq-MAX_FRAMES.false in subst (λ (s : Stepping). s.steps < MAX_FRAMES) c.self.view_is
    (omega (arith, below, apart)) in (
      rw c.step-line.ensures.next (step_followed laws MAX_FRAMES run c.args.self.now frames c.args.frame.now given few),
      (
        line,
        line_added laws MAX_FRAMES run c.args.self.now frames c.args.frame.now line given few
            c.step-line.ensures.line,
        rw c.deref.ensures.0 at c.write.ensures,
      ),
    )
