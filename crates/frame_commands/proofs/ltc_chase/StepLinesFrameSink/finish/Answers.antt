use Rattle.std.proofs.Common.{◌∙◌, ap, subst, ℕ, List}
use Rattle.chase_script.specs.TraceText.{step_end_line}
use Rattle.frame_commands.specs.KeptSteps.{Stepping}
use Rattle.frame_commands.specs.declared.ltc_chase.TheConstants.{MAX_FRAMES}
use Rattle.frame_commands.proofs.StepsGrow.{TraceLaws, counts_steps}
use Rattle.frame_commands.proofs.ltc_chase.StepLinesFrameSink.finish.Goals as goal

-- the line that counts the steps was written
pub returns : goal.returns
returns g c = λ run header intervals frames given counts.
    let line = c.step_end_text.result.items in
    let is = c.step_end_text.ensures ∙ ap (λ (s : Stepping). step_end_line s.steps s.losses) c.self.view_is in
    let law = c.a_frame_adds_a_line.ensures in
    let laws : TraceLaws = record { none = law.none; line = law.line; lines = law.lines } in
    subst (λ (l : List ℕ). g.O.Output.given c.args.out.now c.write.new.self l)
    (counts_steps laws MAX_FRAMES run c.args.self.now frames line given is) (rw c.deref.ensures.0 at c.write.ensures)
