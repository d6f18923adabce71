use Rattle.code_chase.proofs.CausesOfALoss.{cause, no_code}
use Rattle.code_chase.proofs.laws.each_loss_has_a_cause.Goals as goal

pub returns-clause-cause : goal.returns-clause-cause
returns-clause-cause c = cause (record {
  number = c.a_step_moves_the_number.ensures.number;
  label = c.a_step_moves_the_number.ensures.label;
  below = c.number_and_label_are_inverse.ensures.below;
}) c.a_slip_of_less_than_the_window_costs_no_lock.ensures c.a_trace_has_a_line_for_each_row.ensures.line

pub returns-clause-no_code : goal.returns-clause-no_code
returns-clause-no_code c = no_code c.a_trace_has_a_line_for_each_row.ensures.line
