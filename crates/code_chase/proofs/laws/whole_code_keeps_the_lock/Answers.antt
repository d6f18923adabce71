use Rattle.code_chase.proofs.WithoutAGap.{whole_near, whole_nearer, whole_no_loss}
use Rattle.code_chase.proofs.laws.whole_code_keeps_the_lock.Goals as goal

pub returns-clause-no_loss : goal.returns-clause-no_loss
returns-clause-no_loss c = whole_no_loss (record {
  number = c.a_step_moves_the_number.ensures.number;
  label = c.a_step_moves_the_number.ensures.label;
  below = c.number_and_label_are_inverse.ensures.below;
}) c.a_slip_of_less_than_the_window_costs_no_lock.ensures c.a_trace_has_a_line_for_each_row.ensures.line

pub returns-clause-near : goal.returns-clause-near
returns-clause-near c = whole_near (record {
  number = c.a_step_moves_the_number.ensures.number;
  label = c.a_step_moves_the_number.ensures.label;
  below = c.number_and_label_are_inverse.ensures.below;
}) c.a_locked_chase_stays_locked.ensures c.a_slip_of_less_than_the_window_costs_no_lock.ensures
    c.a_trace_has_a_line_for_each_row.ensures.line

pub returns-clause-nearer : goal.returns-clause-nearer
returns-clause-nearer c = whole_nearer (record {
  number = c.a_step_moves_the_number.ensures.number;
  label = c.a_step_moves_the_number.ensures.label;
  below = c.number_and_label_are_inverse.ensures.below;
}) c.a_locked_chase_stays_locked.ensures
