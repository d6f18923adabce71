use Rattle.label_command.proofs.BackFromAFaster.{StepLaws}
use Rattle.label_command.proofs.SumsSaid.{said_again}
use Rattle.label_command.proofs.laws.a_sum_is_said_again.Goals as goal

pub returns : goal.returns
returns c =
    let steps : StepLaws = record {
      number = c.a_step_moves_the_number.ensures.number;
      stepped = c.a_step_moves_the_number.ensures.label;
      label = c.number_and_label_are_inverse.ensures.label;
      below = c.number_and_label_are_inverse.ensures.below;
    } in
    said_again steps
