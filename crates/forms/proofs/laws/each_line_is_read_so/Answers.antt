use Rattle.std.proofs.Common.{rules}
use Rattle.forms.specs.Choice.{choices, said_by}
use Rattle.forms.specs.Form.{form_of, forms}
use Rattle.forms.specs.Lines.{between_spaces}
use Rattle.forms.specs.Made.{chase_in, columns_in, columns_since_in, jam_in, labels_in, line_stripe_in, load_in, luma_in, path_slicing_in, since_in}
use Rattle.forms.specs.Made.{slicing_in, stripe_in, task_in, track_path_in, wave_slicing_in}
use Rattle.forms.specs.Named.{task_of}
use Rattle.forms.specs.Number.{between, number_spelled}
use Rattle.forms.specs.Reading.{read_on}
use Rattle.forms.specs.Slot.{columns_read, frames_read, label_read, numbered, path_fineness_in, path_rate_in, topic_in}
use Rattle.tc_job.specs.PathGrid.{first_fit}
use Rattle.forms.proofs.laws.each_line_is_read_so.Goals as goal

-- by computing
pub returns-clause-named : goal.returns-clause-named
unfolding between_spaces task_of form_of forms choices said_by read_on between number_spelled numbered label_read
    path_rate_in path_fineness_in topic_in first_fit columns_read frames_read task_in jam_in chase_in stripe_in load_in line_stripe_in slicing_in
    wave_slicing_in path_slicing_in track_path_in luma_in labels_in since_in columns_in columns_since_in
returns-clause-named c = search rules

pub returns-clause-taken : goal.returns-clause-taken
unfolding between_spaces task_of form_of forms choices said_by read_on between number_spelled numbered label_read
    path_rate_in path_fineness_in topic_in first_fit columns_read frames_read task_in jam_in chase_in stripe_in load_in line_stripe_in slicing_in
    wave_slicing_in path_slicing_in track_path_in luma_in labels_in since_in columns_in columns_since_in
returns-clause-taken c = search rules

pub returns-clause-refused : goal.returns-clause-refused
unfolding between_spaces task_of form_of forms choices said_by read_on between number_spelled numbered label_read
    path_rate_in path_fineness_in topic_in first_fit columns_read frames_read
returns-clause-refused c = search rules
