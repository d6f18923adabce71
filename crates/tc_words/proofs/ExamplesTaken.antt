-- Each example in the pages of help is taken. All but the label of a number is seen by computing: the list of the
-- labels of a day is too long for that.
use Rattle.std.proofs.Common.{◌≡◌, true, Some, rules, slice_get}
use Rattle.forms.specs.Choice.{choices, said_by}
use Rattle.forms.specs.Form.{form_of, forms}
use Rattle.forms.specs.Made.{chase_in, columns_in, columns_since_in, jam_in, labels_in, line_stripe_in, load_in}
use Rattle.forms.specs.Made.{luma_in, path_slicing_in, since_in}
use Rattle.forms.specs.Made.{slicing_in, stripe_in, task_in, track_path_in, wave_slicing_in}
use Rattle.forms.specs.Named.{task_of}
use Rattle.forms.specs.Number.{between, number_spelled}
use Rattle.forms.specs.Reading.{read_on}
use Rattle.forms.specs.Slot.{columns_read, frames_read, label_read, numbered, path_fineness_in, path_rate_in}
use Rattle.forms.specs.Slot.{topic_in}
use Rattle.tc_job.specs.PathGrid.{first_fit}
use Rattle.tc_address.specs.declared.count.Count.TheVariants.{C25}
use Rattle.tc_address.specs.Label.{address}
use Rattle.tc_address.specs.Label.{labels as day}
use Rattle.tc_words.specs.Forms.{between_bars}
use Rattle.tc_words.specs.Pages.{are_examples_taken, between_spaces}

pub examples_taken : slice_get (day C25) 90000 ≡ Some (address C25 1 0 0 0) → are_examples_taken ≡ true
unfolding are_examples_taken between_bars between_spaces task_of form_of forms choices said_by read_on between
    number_spelled numbered label_read path_rate_in path_fineness_in topic_in first_fit task_in jam_in chase_in
    stripe_in load_in line_stripe_in slicing_in wave_slicing_in path_slicing_in track_path_in luma_in labels_in
    since_in columns_read frames_read columns_in columns_since_in
examples_taken first = rw first (search rules)
