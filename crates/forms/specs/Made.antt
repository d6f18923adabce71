-- The task of a command, by the values of its words in their order.
use Rattle.std.specs.Prelude.{ℕ, ◌*◌, ◌+◌, Bool, true, false, List, Option, Some, None, slice_get, cond}
use Rattle.std.specs.Prelude.{if◌then◌else◌}
use Rattle.std.specs.Option.{unwrap_or}
use Rattle.biphase.specs.Shape.{shape_with}
use Rattle.label_columns.specs.declared.columns.Columns.{Columns}
use Rattle.label_columns.specs.declared.columns.Parting.{Parting}
use Rattle.label_columns.specs.declared.columns.Parting.TheVariants.{Blanks, Commas, CommasAndSemicolons}
use Rattle.label_lines.specs.declared.timebase.Timebase.{Timebase}
use Rattle.label_lines.specs.declared.timebase.Timebase.TheVariants as bases
use Rattle.label_lines.specs.declared.way.Way.{Way}
use Rattle.label_lines.specs.declared.way.Way.TheVariants as ways
use Rattle.luma_field.specs.Raster.{raster_of}
use Rattle.pcm_front.specs.declared.threshold.Threshold.{Threshold}
use Rattle.pcm_front.specs.declared.threshold.Threshold.TheVariants.{Fixed, Follow, Deep}
use Rattle.step_grid.specs.declared.grid.Grid.{Grid}
use Rattle.step_grid.specs.declared.grid.Grid.TheVariants.{Repeat}
use Rattle.tc_address.specs.declared.count.Count.{Count}
use Rattle.tc_address.specs.declared.count.Count.TheVariants.{C24, C25, C30, Drop30}
use Rattle.tc_job.specs.ChaseRun.{Chasing, chasing_of}
use Rattle.tc_job.specs.Jam.{Jamming, jamming_of}
use Rattle.tc_job.specs.LabelRun.{LabelRunning, label_run_of}
use Rattle.tc_job.specs.LineStripe.{LineStriping, line_stripe_of}
use Rattle.tc_job.specs.LoadRun.{Loading, loading_of}
use Rattle.tc_job.specs.LumaRun.{LumaReading, luma_reading_of}
use Rattle.tc_job.specs.PathGrid.{grid_for, step_ticks}
use Rattle.tc_job.specs.PathSlicing.{SlicesPath, path_slicing_of}
use Rattle.tc_job.specs.Slicing.{Slices, slicing_of}
use Rattle.tc_job.specs.Stripe.{Striping, stripe_of}
use Rattle.tc_job.specs.TrackPath.{SlicesTrackPath, track_path_of}
use Rattle.tc_job.specs.WaveSlicing.{SlicesWave, wave_slicing_of}
use Rattle.tc_job.specs.declared.column_run.ColumnRun.{ColumnRun}
use Rattle.tc_job.specs.declared.flight.Flight.{Flight}
use Rattle.tc_job.specs.declared.job.Job.{Job}
use Rattle.tc_job.specs.declared.job.Job.TheVariants as jobs
use Rattle.tc_job.specs.declared.job.Task.{Task}
use Rattle.tc_job.specs.declared.job.Task.TheVariants as tasks
use Rattle.forms.specs.Held.{count_at, direction_at, has_live, label_at, number_or, seed_at, system_at, tolerance_at}
use Rattle.forms.specs.Held.{version_at, witness_at}
use Rattle.forms.specs.declared.command.Command.{Command}
use Rattle.forms.specs.declared.command.Command.TheVariants as commands
use Rattle.forms.specs.declared.value.Asked.TheVariants as asks
use Rattle.forms.specs.declared.value.Said.TheVariants as says
use Rattle.forms.specs.declared.value.Value.{Value}
use Rattle.forms.specs.declared.value.Value.TheVariants as values

-- ---- recordings

-- how frames are had: LIMIT, and two words more from a place on, the tolerance and what each word is asked for
abbrev pub flight_at : List Value → ℕ → ℕ → Flight
flight_at values limit more = record {
  limit = number_or values limit 0;
  profile = tolerance_at values more;
  witness = witness_at values (more + 1);
}

-- `LIMIT CELL TICK-RATE [worn|rough [firm|consecutive|counted]]`
unfoldable pub jam_in : List Value → Jamming
jam_in values = jamming_of (flight_at values 0 3) (number_or values 1 0) (number_or values 2 0)

-- `COUNT LABEL LIMIT SEED BOUND [worn|rough [firm|consecutive|counted]]`
unfoldable pub chase_in : List Value → Chasing
chase_in values = chasing_of (label_at values 1) (flight_at values 2 5) (seed_at values 3) (number_or values 4 0)

-- `COUNT DIRECTION LABEL FRAMES CELL TICK-RATE [TO-CELL STEP]`: without the last two the cells stay as they are
unfoldable pub stripe_in : List Value → Striping
stripe_in values =
    let cell = number_or values 4 0 in
    stripe_of (direction_at values 1) (label_at values 2) (number_or values 3 0)
    (shape_with cell (number_or values 6 cell) (number_or values 7 0)) (number_or values 5 0)

-- `SEED WORDS`
unfoldable pub load_in : List Value → Loading
load_in values = loading_of (seed_at values 0) (number_or values 1 0)

-- `COUNT LABEL FRAMES LENGTH`
unfoldable pub line_stripe_in : List Value → LineStriping
line_stripe_in values = line_stripe_of (label_at values 1) (number_or values 2 0) (number_or values 3 0)

-- ---- sound

-- a threshold by the word that says how it follows the level, and by what it does without a word
abbrev pub threshold_of : Threshold → ℕ → Option Value → Threshold
threshold_of other least (Some (values.Said says.Follow)) = Follow least
threshold_of other least (Some (values.Said says.Deep)) = Deep least
threshold_of other least _ = other

-- `SYSTEM RATE THRESHOLD [FINENESS [follow|deep [SMOOTH]]] [live]`: without the words a sample has one tick, the
-- threshold stays, and a sum has one sample. The threshold is of sums
unfoldable pub slicing_in : List Value → Slices
slicing_in values =
    let smooth = number_or values 5 1 in
    let least = smooth * number_or values 2 0 in
    slicing_of (system_at values 0) (number_or values 1 0) (threshold_of (Fixed least) least (slice_get values 4))
    (number_or values 3 1) smooth (has_live values)

-- `SYSTEM TRACK THRESHOLD [SMOOTH [deep]] [live]`: without `deep` the threshold is at a half of the level
unfoldable pub wave_slicing_in : List Value → SlicesWave
wave_slicing_in values =
    let smooth = number_or values 3 1 in
    let least = smooth * number_or values 2 0 in
    wave_slicing_of (system_at values 0) (number_or values 1 0) (threshold_of (Follow least) least (slice_get values 4))
    smooth (has_live values)

-- `SYSTEM RATE THRESHOLD FINENESS path`, on the grid of the rate
abbrev pub grid_in : List Value → Grid
grid_in values = unwrap_or (grid_for (system_at values 0) (number_or values 1 0)) (Repeat 1)

unfoldable pub path_slicing_in : List Value → SlicesPath
path_slicing_in values =
    path_slicing_of (system_at values 0) (number_or values 1 0) (number_or values 2 0) (number_or values 3 0)
    (grid_in values) (unwrap_or (step_ticks (number_or values 3 0) (grid_in values)) 0)

-- `SYSTEM TRACK THRESHOLD path`
unfoldable pub track_path_in : List Value → SlicesTrackPath
track_path_in values = track_path_of (system_at values 0) (number_or values 1 0) (number_or values 2 0)

-- ---- pictures

-- `SYSTEM WIDTH HEIGHT FIRST ROWS`
unfoldable pub luma_in : List Value → LumaReading
luma_in values =
    luma_reading_of (system_at values 0)
    (raster_of (number_or values 1 0) (number_or values 2 0) (number_or values 3 0) (number_or values 4 0))

-- ---- labels

-- labels of 24 and of 30 frames a second may be pulled down; drop-frame counting always is
abbrev pub timebase_of : Count → Bool → Timebase
timebase_of C24 pulled = cond pulled bases.PulledDown24 bases.F24
timebase_of C25 pulled = bases.F25
timebase_of C30 pulled = cond pulled bases.PulledDown30 bases.F30
timebase_of Drop30 pulled = bases.Drop30

-- `ntsc` stands at a place
abbrev pub is_ntsc : Option Value → Bool
is_ntsc (Some (values.Said says.Ntsc)) = true
is_ntsc _ = false

abbrev pub has_ntsc : List Value → ℕ → Bool
has_ntsc values place = is_ntsc (slice_get values place)

-- the count at a place, pulled down if `ntsc` comes after it
abbrev pub base_at : List Value → ℕ → Timebase
base_at values place = timebase_of (count_at values place) (has_ntsc values (place + 1))

-- what is asked of labels by a word, with the words from a place on
abbrev pub way_of : List Value → ℕ → Option Value → Way
way_of all next (Some (values.Said (says.Asked asks.Number))) = ways.Number
way_of all next (Some (values.Said (says.Asked asks.Label))) = ways.Label
way_of all next (Some (values.Said (says.Asked asks.Seconds))) = ways.Seconds
way_of all next (Some (values.Said (says.Asked asks.Plus))) = ways.Plus (number_or all next 0)
way_of all next (Some (values.Said (says.Asked asks.Minus))) = ways.Minus (number_or all next 0)
way_of all next (Some (values.Said (says.Asked asks.To))) = ways.To (base_at all next)
way_of all next _ = ways.Number

-- by the word at a place
abbrev pub way_at : List Value → ℕ → Way
way_at all place = way_of all (place + 1) (slice_get all place)

-- `COUNT [ntsc] WAY`
unfoldable pub labels_in : List Value → LabelRunning
labels_in all = label_run_of (base_at all 0) (way_at all (if has_ntsc all 1 then 2 else 1))

-- `COUNT [ntsc] since LABEL`, with the label at a place
unfoldable pub since_in : List Value → ℕ → LabelRunning
since_in all place = label_run_of (base_at all 0) (ways.Since (label_at all place))

-- what parts columns
abbrev pub parting_of : Option Value → Parting
parting_of (Some (values.Said (says.Parting parting))) = parting
parting_of _ = Blanks

abbrev pub parting_at : List Value → ℕ → Parting
parting_at values place = parting_of (slice_get values place)

-- a semicolon belongs to the labels of drop-frame counting, so it parts no columns of theirs
abbrev pub parting_for : Count → Parting → Parting
parting_for Drop30 CommasAndSemicolons = Commas
parting_for count parting = parting

-- the first and the last of neighbouring columns
abbrev pub range_of : Option Value → ℕ × ℕ
range_of (Some (values.Columns first last)) = (first, last)
range_of _ = (1, 1)

abbrev pub range_at : List Value → ℕ → ℕ × ℕ
range_at values place = range_of (slice_get values place)

-- `column|csv COLUMNS`, from a place on
abbrev pub columns_at : List Value → ℕ → Columns
columns_at values place = record {
  parting = parting_for (count_at values 0) (parting_at values place);
  first = (range_at values (place + 1)).0;
  last = (range_at values (place + 1)).1;
}

-- labels in columns
abbrev pub column_run_of : LabelRunning → Columns → ColumnRun
column_run_of labels columns = record { labels = labels; columns = columns; is_length = false }

-- the length between labels in two columns
abbrev pub length_run_of : LabelRunning → Columns → ColumnRun
length_run_of labels columns = record { labels = labels; columns = columns; is_length = true }

-- a length is asked by the word at a place
abbrev pub is_length : Option Value → Bool
is_length (Some (values.Said (says.Asked asks.Length))) = true
is_length _ = false

abbrev pub asks_length : List Value → ℕ → Bool
asks_length values place = is_length (slice_get values place)

-- the first two columns between blanks
abbrev pub first_two : Columns
first_two = record { parting = Blanks; first = 1; last = 2 }

-- `COUNT [ntsc] WAY`; without columns a length is that between the labels in the first two
abbrev pub labels_job : List Value → Job
labels_job all =
    if asks_length all (if has_ntsc all 1 then 2 else 1) then jobs.Columns (length_run_of (labels_in all) first_two)
    else jobs.Labels (labels_in all)

-- `COUNT [ntsc] column|csv COLUMNS WAY`
unfoldable pub columns_in : List Value → ColumnRun
columns_in all =
    let place = if has_ntsc all 1 then 2 else 1 in
    record {
      labels = label_run_of (base_at all 0) (way_at all (place + 2));
      columns = columns_at all place;
      is_length = asks_length all (place + 2);
    }

-- `COUNT [ntsc] column|csv COLUMNS since LABEL`, with the columns at a place
unfoldable pub columns_since_in : List Value → ℕ → ColumnRun
columns_since_in all place = column_run_of (since_in all (place + 3)) (columns_at all place)

-- ---- help

-- no word, the page of a command, or that of the exit numbers
abbrev pub help_of : Option Value → Job
help_of (Some (values.Page page)) = jobs.HelpOf page
help_of (Some _) = jobs.HelpStatuses
help_of None = jobs.Help

abbrev pub help_in : List Value → Job
help_in values = help_of (slice_get values 0)

-- ---- the task of each command

unfoldable pub task_in : Command → List Value → Task
task_in commands.LtcRead values = tasks.Stream jobs.LtcRead
task_in commands.LtcWorn values = tasks.Stream jobs.LtcWorn
task_in commands.LtcRough values = tasks.Stream (jobs.LtcRough (witness_at values 0))
task_in commands.LtcFly values = tasks.Stream (jobs.LtcFly (flight_at values 0 1))
task_in commands.LtcSpans values = tasks.Stream (jobs.LtcSpans (flight_at values 0 1))
task_in commands.LtcMtc values = tasks.Stream (jobs.LtcMtc (flight_at values 0 1))
task_in commands.LtcJam values = tasks.Stream (jobs.LtcJam (jam_in values))
task_in commands.LtcConvert values = tasks.Stream (jobs.LtcConvert (version_at values 0))
task_in commands.PcmPath values = tasks.Stream (jobs.PcmPath (path_slicing_in values))
task_in commands.PcmLtc values = tasks.Stream (jobs.PcmLtc (slicing_in values))
task_in commands.WavPath values = tasks.Stream (jobs.WavPath (track_path_in values))
task_in commands.WavLtc values = tasks.Stream (jobs.WavLtc (wave_slicing_in values))
task_in commands.LtcPcm values = tasks.Stream (jobs.LtcPcm (number_or values 0 0))
task_in commands.LtcMake values = tasks.Stream (jobs.LtcMake (stripe_in values))
task_in commands.LtcLoad values = tasks.Stream (jobs.LtcLoad (load_in values))
task_in commands.MtcRead values = tasks.Stream jobs.MtcRead
task_in commands.Chase values = tasks.Chase (label_at values 1)
task_in commands.LtcChase values = tasks.Stream (jobs.LtcChase (chase_in values))
task_in commands.VitcRead values = tasks.Stream jobs.VitcRead
task_in commands.LumaVitc values = tasks.Stream (jobs.LumaVitc (luma_in values))
task_in commands.VitcMake values = tasks.Stream (jobs.VitcMake (line_stripe_in values))
task_in commands.Number values = tasks.Stream (jobs.Number (label_at values 1))
task_in commands.Label values = tasks.Stream (jobs.LabelOf (label_at values 1))
task_in commands.Labels values = tasks.Stream (labels_job values)
task_in commands.LabelsSince values = tasks.Stream (jobs.Labels (since_in values 2))
task_in commands.PulledLabelsSince values = tasks.Stream (jobs.Labels (since_in values 3))
task_in commands.LabelColumns values = tasks.Stream (jobs.Columns (columns_in values))
task_in commands.LabelColumnsSince values = tasks.Stream (jobs.Columns (columns_since_in values 1))
task_in commands.PulledLabelColumnsSince values = tasks.Stream (jobs.Columns (columns_since_in values 2))
task_in commands.LabelSum values = tasks.Stream (jobs.Sum (base_at values 0))
task_in commands.Help values = tasks.Stream (help_in values)
task_in commands.Version values = tasks.Stream jobs.Version
