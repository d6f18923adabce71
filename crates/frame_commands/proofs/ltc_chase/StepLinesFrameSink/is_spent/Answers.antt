use Rattle.std.proofs.Common.{◌∙◌, ap, sym}
use Rattle.frame_commands.specs.KeptSteps.{Stepping}
use Rattle.frame_commands.specs.declared.ltc_chase.TheConstants.{MAX_FRAMES}
use Rattle.frame_commands.proofs.StepsGrow.{not_passed}
use Rattle.frame_commands.proofs.ltc_chase.StepLinesFrameSink.is_spent.Goals as goal

-- the limit is not passed
pub returns-clause-going : goal.returns-clause-going
returns-clause-going c = λ going run header frames given.
    not_passed MAX_FRAMES run c.args.self.now frames given (ap (λ (s : Stepping). s.is_spent) (sym c.self.view_is)
    ∙ going)
