use Rattle.label_command.proofs.BackFromAFaster.{RateLaws, StepLaws, back_behind, back_together, behind_midnight}
use Rattle.label_command.proofs.laws.a_label_comes_back_from_a_faster_count.Goals as goal

pub returns : goal.returns
returns c =
    let steps : StepLaws = record {
      number = c.a_step_moves_the_number.ensures.number;
      stepped = c.a_step_moves_the_number.ensures.label;
      label = c.number_and_label_are_inverse.ensures.label;
      below = c.number_and_label_are_inverse.ensures.below;
    } in
    let rates : RateLaws = record {
      there = c.a_frame_comes_back_from_a_faster_rate.ensures.at;
      behind = c.a_frame_comes_back_from_a_faster_rate.ensures.behind;
    } in
    record {
      midnight = behind_midnight steps;
      together = back_together steps rates;
      behind = back_behind steps rates;
    }
