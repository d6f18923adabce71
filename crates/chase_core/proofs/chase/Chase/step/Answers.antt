use Rattle.chase_core.proofs.CauseOfALoss.{window_cause}
use Rattle.chase_core.proofs.chase.Chase.step.Goals as goal

-- the cause of the outcome's loss is that of the report's
pub returns-clause-window : goal.returns-clause-window
returns-clause-window c =
    λ error. rw (← c.self.view_is, c.outcome_of-outcome.ensures.value, c.after_command-mode.ensures)
    (window_cause _ _ _ _ error)
