use Rattle.std.proofs.Common.{refl}
use Rattle.forms.specs.Choice.{choices, said_by}
use Rattle.forms.specs.Form.{form_of, forms}
use Rattle.forms.specs.Lines.{between_spaces}
use Rattle.forms.specs.Made.{chase_in, columns_in, jam_in, labels_in, line_stripe_in, load_in, luma_in, path_slicing_in}
use Rattle.forms.specs.Made.{slicing_in, stripe_in, task_in, track_path_in, wave_slicing_in}
use Rattle.forms.specs.Named.{task_of}
use Rattle.forms.specs.Number.{between, number_spelled}
use Rattle.forms.specs.Reading.{read_on}
use Rattle.forms.specs.Slot.{columns_read, label_read, path_fineness_in, path_rate_in, topic_in}
use Rattle.tc_job.specs.PathGrid.{first_fit}
use Rattle.tc_top.proofs.OneCommand.{same}
use Rattle.tc_top.proofs.laws.each_line_works_its_command.Goals as goal

-- by computing
pub returns-clause-recordings : goal.returns-clause-recordings
unfolding between_spaces task_of form_of forms choices said_by read_on between number_spelled label_read task_in jam_in
    chase_in
returns-clause-recordings c = record {
  read = (_, refl, λ pulled written. (same, same));
  worn = (_, refl, λ pulled written. (same, same));
  rough = (_, refl, λ pulled written. (same, same));
  firm = (_, refl, λ pulled written. (same, same));
  consecutive = (_, refl, λ pulled written. (same, same));
  counted = (_, refl, λ pulled written. (same, same));
  convert = ((_, refl), λ v pulled written. (same, same));
  pcm = ((_, refl), λ v pulled written. (same, same));
  fly = ((_, refl), λ v pulled written. (same, same));
  spans = ((_, refl), λ v pulled written. (same, same));
  mtc = ((_, refl), λ v pulled written. (same, same));
  jam = ((_, refl), λ v pulled written. (same, same));
  chase = ((_, refl), λ v pulled written. (same, same));
}

pub returns-clause-signals : goal.returns-clause-signals
unfolding between_spaces task_of form_of forms choices said_by read_on between number_spelled path_rate_in
    path_fineness_in first_fit task_in slicing_in path_slicing_in wave_slicing_in track_path_in luma_in
returns-clause-signals c = record {
  samples = ((_, refl), λ v pulled written. (same, same));
  path = ((_, refl), λ v pulled written. (same, same));
  track = ((_, refl), λ v pulled written. (same, same));
  track_path = ((_, refl), λ v pulled written. (same, same));
  midi = (_, refl, λ pulled written. (same, same));
  lines = (_, refl, λ pulled written. (same, same));
  pixels = ((_, refl), λ v pulled written. (same, same));
}

pub returns-clause-texts : goal.returns-clause-texts
unfolding between_spaces task_of form_of forms choices said_by read_on between number_spelled label_read columns_read
    topic_in task_in stripe_in line_stripe_in load_in labels_in columns_in
returns-clause-texts c = record {
  make = ((_, refl), λ v pulled written. (same, same));
  make_lines = ((_, refl), λ v pulled written. (same, same));
  load = ((_, refl), λ v pulled written. (same, same));
  number = ((_, refl), λ v pulled written. (same, same));
  label = λ label pulled written. (same, same);
  labels = ((_, refl), λ v pulled written. (same, same));
  columns = ((_, refl), λ v pulled written. (same, same));
  sum = ((_, refl), λ v pulled written. (same, same));
  help = (_, refl, λ pulled written. (same, same));
  page = ((_, refl), λ v pulled written. (same, same));
  statuses = (_, refl, λ pulled written. (same, same));
  version = (_, refl, λ pulled written. (same, same));
}
