use Rattle.quarter_frame.proofs.RunsAreRead.{frames_are_neighbours, frames_are_read}
use Rattle.quarter_frame.proofs.laws.what_is_sent_is_read_back.Goals as goal

pub returns-clause-events : goal.returns-clause-events
returns-clause-events c = λ limit last words are. frames_are_read
    (record {
      forward = c.a_run_is_read_back.ensures.forward;
      forward_half = c.a_run_is_read_back.ensures.forward_half;
      backward = c.a_run_is_read_back.ensures.backward;
      backward_half = c.a_run_is_read_back.ensures.backward_half;
    })
    (record {
      found = c.number_and_label_are_inverse.ensures.number;
      none = c.steps_add_up.ensures.none;
      sum = c.steps_add_up.ensures.sum;
      first = c.steps_are_due_in_order.ensures.first;
      next = c.the_next_word_fits.ensures;
    })
    limit last words are

pub returns-clause-neighbours : goal.returns-clause-neighbours
returns-clause-neighbours c = λ limit last words front rest first second are is on. frames_are_neighbours
    (record {
      found = c.number_and_label_are_inverse.ensures.number;
      none = c.steps_add_up.ensures.none;
      sum = c.steps_add_up.ensures.sum;
      first = c.steps_are_due_in_order.ensures.first;
      next = c.the_next_word_fits.ensures;
    })
    limit last words front rest first second are is on
