use Rattle.std.proofs.Common.{refl, arith, rules}
use Rattle.std.specs.Fmt.{digits}
use Rattle.forms.specs.Choice.{choices, said_by}
use Rattle.forms.specs.Form.{form_of, forms}
use Rattle.forms.specs.Made.{chase_in, columns_in, columns_since_in, jam_in, labels_in, line_stripe_in, load_in}
use Rattle.forms.specs.Made.{luma_in, path_slicing_in, since_in}
use Rattle.forms.specs.Made.{slicing_in, stripe_in, task_in, track_path_in, wave_slicing_in}
use Rattle.forms.specs.Named.{task_of}
use Rattle.forms.specs.Number.{between, number_spelled}
use Rattle.forms.specs.Reading.{read_on}
use Rattle.forms.specs.Slot.{columns_read, frames_read, label_read, numbered, path_fineness_in, path_rate_in}
use Rattle.forms.specs.Slot.{topic_in}
use Rattle.tc_job.specs.PathGrid.{first_fit}
use Rattle.tc_address.specs.declared.count.Count.TheVariants.{C25}
use Rattle.tc_address.specs.Label.{address, addresses, hour_of, minute_of, second_of}
use Rattle.tc_address.specs.Label.{labels as day}
use Rattle.tc_address.specs.Numbering.{number_of}
use Rattle.tc_words.specs.Forms.{between_bars}
use Rattle.forms.specs.Help.{range_text, ways, ways_by}
use Rattle.tc_words.specs.Pages.{are_shown, are_values_read, between_spaces, rows_from, shown_by, slot_rows}
use Rattle.tc_words.specs.Pages.{value_rows}
use Rattle.tc_words.proofs.AllTold.{each_is_named}
use Rattle.tc_words.proofs.ExamplesTaken.{examples_taken}
use Rattle.tc_words.proofs.laws.each_page_tells_what_is_read.Goals as goal

-- by computing
pub returns-clause-shown : goal.returns-clause-shown
unfolding are_shown choices digits forms range_text rows_from shown_by slot_rows ways ways_by
returns-clause-shown c = refl

pub returns-clause-read : goal.returns-clause-read
unfolding are_values_read digits range_text rows_from slot_rows value_rows ways ways_by between_bars between_spaces
    task_of form_of forms choices said_by read_on between number_spelled numbered label_read path_rate_in
    path_fineness_in topic_in first_fit task_in jam_in chase_in stripe_in load_in line_stripe_in slicing_in
    wave_slicing_in path_slicing_in track_path_in luma_in labels_in since_in columns_read frames_read columns_in
    columns_since_in
returns-clause-read c = search rules

pub returns-clause-named : goal.returns-clause-named
returns-clause-named c = each_is_named _

-- the label of the example has the number 90,000
pub returns-clause-examples : goal.returns-clause-examples
unfolding number_of day addresses hour_of minute_of second_of
returns-clause-examples c = examples_taken (c.number_and_label_are_inverse.ensures.label (address C25 1 0 0 0)
    (record {
      hours = omega arith;
      minutes = omega arith;
      seconds = omega arith;
      frames = omega arith;
      counted = refl;
    }))
