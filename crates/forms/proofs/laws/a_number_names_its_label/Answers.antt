use Rattle.forms.proofs.NumberedLabels.{lines_name_their_labels, past_lines_name_none}
use Rattle.forms.proofs.laws.a_number_names_its_label.Goals as goal

pub returns-clause-named : goal.returns-clause-named
returns-clause-named c =
    lines_name_their_labels c.number_and_label_are_inverse.ensures.label c.a_label_has_its_number_by_its_digits.ensures

pub returns-clause-past : goal.returns-clause-past
returns-clause-past c =
    past_lines_name_none c.number_and_label_are_inverse.ensures.number c.number_and_label_are_inverse.ensures.below
