-- The values that the slots of a command take are in the ranges of its job: recordings, labels and pictures.
use Rattle.std.proofs.Common.{◌≡◌, ◌≤◌, ◌-◌, ◌/◌, Bool, true, false, List, Some, refl, sym, ◌∙◌, ap, arith}
use Rattle.std.proofs.Common.{min, take, inl, inr}
use Rattle.std.specs.Prelude.{IsSome}
use Rattle.biphase.specs.declared.shaper.TheConstants.{MIN_SHAPED, MAX_SHAPED}
use Rattle.label_lines.specs.Timebase.{count_of as counted}
use Rattle.limits.specs.declared.recording.TheConstants.{MAX_TICK_RATE}
use Rattle.luma_field.specs.Raster.{IsRaster, raster_of}
use Rattle.luma_field.specs.declared.raster.TheConstants.{MAX_HEIGHT, MAX_ROWS}
use Rattle.luma_row.specs.declared.width.TheConstants.{MAX_WIDTH, MIN_WIDTH}
use Rattle.tc_address.specs.Count.{system_with}
use Rattle.tc_address.specs.Label.{IsLabel}
use Rattle.tc_address.specs.declared.count.Count.{Count}
use Rattle.tc_address.specs.declared.count.Count.TheVariants.{C24, C25, C30, Drop30}
use Rattle.biphase.specs.Shape.{IsShaped}
use Rattle.tc_job.specs.ChaseRun.{IsChasing}
use Rattle.tc_job.specs.Jam.{IsJamming}
use Rattle.tc_job.specs.LineStripe.{IsLineStripe}
use Rattle.tc_job.specs.LoadRun.{IsLoading}
use Rattle.tc_job.specs.Stripe.{IsStripe}
use Rattle.tc_job.specs.declared.chase_run.TheConstants.{MAX_SLIP}
use Rattle.tc_job.specs.declared.load_run.TheConstants.{MAX_WORDS}
use Rattle.tc_job.specs.declared.stripe.TheConstants.{MAX_FRAMES}
use Rattle.vitc_line.specs.Places.{HasLines}
use Rattle.vitc_reader.specs.declared.line_length.TheConstants.{MAX_LINE_LENGTH, MIN_LINE_LENGTH}
use Rattle.forms.specs.Choice.{IsSaidIn, choices}
use Rattle.forms.specs.Held.{count_at, count_of, label_at, label_in, number_of, number_or, system_at, system_of}
use Rattle.forms.specs.Made.{base_at, chase_in, jam_in, line_stripe_in, load_in, stripe_in, timebase_of}
use Rattle.forms.specs.Reading.{AreRead}
use Rattle.forms.specs.declared.choices.TheConstants.{COUNT_WITH_LINES, SYSTEM_WITH_LINES}
use Rattle.forms.specs.declared.slot.Bound.TheVariants.{Below, Eighth, Rest}
use Rattle.forms.specs.declared.slot.Need.TheVariants.{Needed, Optional}
use Rattle.forms.specs.declared.slot.Slot.TheVariants as kinds
use Rattle.forms.specs.declared.table.TheConstants.{CHASE, FLIGHT, JAM, LABEL, LINES, LOAD, LUMA, MAKE, NUMBER}
use Rattle.forms.specs.declared.table.TheConstants.{PULLED_SINCE, SINCE}
use Rattle.forms.specs.declared.table.TheConstants.{COLUMNS_SINCE, PULLED_COLUMNS_SINCE}
use Rattle.forms.specs.declared.value.Said.{Said}
use Rattle.forms.specs.declared.value.Value.{Value}
use Rattle.forms.specs.declared.value.Value.TheVariants as values
use Rattle.forms.proofs.InSlots.{label_needed, number_given, number_needed, ranged, ranged_or, said_needed, seed_needed}
use Rattle.forms.proofs.InSlots.{not_less, seen_before}

-- ---- frames

pub limit_valid : (all : List Value) → AreRead FLIGHT.now all → number_or all 0 0 ≤ 255
limit_valid all read = (ranged FLIGHT.now all 0 0 255 read refl refl).1

pub jam_valid : (all : List Value) → AreRead JAM.now all → IsJamming (jam_in all)
unfolding jam_in
jam_valid all read = record {
  limit = (ranged JAM.now all 0 0 255 read refl refl).1;
  cell = ranged JAM.now all 1 MIN_SHAPED MAX_SHAPED read refl refl;
  some_ticks = (ranged JAM.now all 2 1 MAX_TICK_RATE read refl refl).0;
  not_too_fast = (ranged JAM.now all 2 1 MAX_TICK_RATE read refl refl).1;
}

-- ---- labels

pub label_valid : (all : List Value) → AreRead LABEL.now all → IsSome (label_in all 1)
label_valid all read =
    (label_needed LABEL.now all 1 (count_at (take 1 all) 0) (kinds.Label 0) read refl refl (λ v fits. fits)).0

pub number_valid : (all : List Value) → AreRead NUMBER.now all → IsSome (label_in all 1)
number_valid all read =
    (label_needed NUMBER.now all 1 (count_at (take 1 all) 0) (kinds.NumberOfDay 0) read refl refl (λ v fits. fits)).0

-- the frames of a count are counted so, pulled down or not
base_counts : (count : Count) (pulled : Bool) → counted (timebase_of count pulled) ≡ count
base_counts C24 false = refl
base_counts C24 true = refl
base_counts C25 false = refl
base_counts C25 true = refl
base_counts C30 false = refl
base_counts C30 true = refl
base_counts Drop30 false = refl
base_counts Drop30 true = refl

pub since_label : (all : List Value) → AreRead SINCE.now all → IsSome (label_in all 2)
since_label all read =
    (label_needed SINCE.now all 2 (count_at (take 2 all) 0) (kinds.Label 0) read refl refl (λ v fits. fits)).0

pub since_valid : (all : List Value) → AreRead SINCE.now all
    → ((label_at all 2).count ≡ counted (base_at all 0)) × IsLabel (label_at all 2)
since_valid all read =
    let is = label_needed SINCE.now all 2 (count_at (take 2 all) 0) (kinds.Label 0) read refl refl (λ v fits. fits) in
    (is.2 ∙ ap count_of (seen_before all 2 0 (omega arith)) ∙ sym (base_counts (count_at all 0) _), is.1)

pub pulled_since_label : (all : List Value) → AreRead PULLED_SINCE.now all → IsSome (label_in all 3)
pulled_since_label all read =
    (label_needed PULLED_SINCE.now all 3 (count_at (take 3 all) 0) (kinds.Label 0) read refl refl (λ v fits. fits)).0

pub pulled_since_valid : (all : List Value) → AreRead PULLED_SINCE.now all
    → ((label_at all 3).count ≡ counted (base_at all 0)) × IsLabel (label_at all 3)
pulled_since_valid all read =
    let is = label_needed PULLED_SINCE.now all 3 (count_at (take 3 all) 0) (kinds.Label 0) read refl refl (λ v fits. fits) in
    (is.2 ∙ ap count_of (seen_before all 3 0 (omega arith)) ∙ sym (base_counts (count_at all 0) _), is.1)

pub columns_since_label : (all : List Value) → AreRead COLUMNS_SINCE.now all → IsSome (label_in all 4)
columns_since_label all read =
    (label_needed COLUMNS_SINCE.now all 4 (count_at (take 4 all) 0) (kinds.Label 0) read refl refl (λ v fits. fits)).0

pub columns_since_valid : (all : List Value) → AreRead COLUMNS_SINCE.now all
    → ((label_at all 4).count ≡ counted (base_at all 0)) × IsLabel (label_at all 4)
columns_since_valid all read =
    let is = label_needed COLUMNS_SINCE.now all 4 (count_at (take 4 all) 0) (kinds.Label 0) read refl refl
    (λ v fits. fits) in
    (is.2 ∙ ap count_of (seen_before all 4 0 (omega arith)) ∙ sym (base_counts (count_at all 0) _), is.1)

pub pulled_columns_since_label : (all : List Value) → AreRead PULLED_COLUMNS_SINCE.now all → IsSome (label_in all 5)
pulled_columns_since_label all read =
    (label_needed PULLED_COLUMNS_SINCE.now all 5 (count_at (take 5 all) 0) (kinds.Label 0) read refl refl
    (λ v fits. fits)).0

pub pulled_columns_since_valid : (all : List Value) → AreRead PULLED_COLUMNS_SINCE.now all
    → ((label_at all 5).count ≡ counted (base_at all 0)) × IsLabel (label_at all 5)
pulled_columns_since_valid all read =
    let is = label_needed PULLED_COLUMNS_SINCE.now all 5 (count_at (take 5 all) 0) (kinds.Label 0) read refl refl
    (λ v fits. fits) in
    (is.2 ∙ ap count_of (seen_before all 5 0 (omega arith)) ∙ sym (base_counts (count_at all 0) _), is.1)

pub chase_label : (all : List Value) → AreRead CHASE.now all → IsSome (label_in all 1) × IsLabel (label_at all 1)
chase_label all read =
    let is = label_needed CHASE.now all 1 (count_at (take 1 all) 0) (kinds.Label 0) read refl refl (λ v fits. fits) in
    (is.0, is.1)

pub chase_limit : (all : List Value) → AreRead CHASE.now all → number_or all 2 0 ≤ 255
chase_limit all read = (ranged CHASE.now all 2 0 255 read refl refl).1

pub chase_valid : (all : List Value) → AreRead CHASE.now all → IsChasing (chase_in all)
unfolding chase_in
chase_valid all read = record {
  label = (chase_label all read).1;
  limit = chase_limit all read;
  seed = seed_needed CHASE.now all 3 read refl refl;
  bound = (ranged CHASE.now all 4 0 MAX_SLIP read refl refl).1;
}

-- ---- recordings

pub stripe_label : (all : List Value) → AreRead MAKE.now all → IsSome (label_in all 2) × IsLabel (label_at all 2)
stripe_label all read =
    let is = label_needed MAKE.now all 2 (count_at (take 2 all) 0) (kinds.Label 0) read refl refl (λ v fits. fits) in
    (is.0, is.1)

pub stripe_cell : (all : List Value) → AreRead MAKE.now all → IsShaped (number_or all 4 0)
stripe_cell all read = ranged MAKE.now all 4 MIN_SHAPED MAX_SHAPED read refl refl

pub stripe_to_cell : (all : List Value) → AreRead MAKE.now all → IsShaped (number_or all 6 (number_or all 4 0))
stripe_to_cell all read =
    let cell = stripe_cell all read in
    ranged_or MAKE.now all 6 MIN_SHAPED MAX_SHAPED (number_or all 4 0) Optional read refl cell.0 cell.1

-- without a length to which cells move there is no step
pub stripe_step : (all : List Value) → AreRead MAKE.now all
    → number_or all 7 0 ≤ min (number_or all 4 0) (number_or all 6 (number_or all 4 0)) / 8
stripe_step all read =
    let cell : number_or (take 7 all) 4 0 ≡ number_or all 4 0 = ap (number_of 0) (seen_before all 7 4 (omega arith)) in
    let to : number_or (take 7 all) 6 0 ≡ number_or all 6 0 = ap (number_of 0) (seen_before all 7 6 (omega arith)) in
    let more = not_less all 6 (number_or all 4 0) in
    let step = number_given MAKE.now all 7 0
    (min MAX_SHAPED (min (number_or (take 7 all) 4 0) (number_or (take 7 all) 6 0) / 8)) 0 Needed
    (kinds.Bounded 0 MAX_SHAPED (Eighth 4 6)) read refl (λ v fits. fits) (omega arith) (omega arith) in
    omega (arith, step.1, cell, to, more)

pub stripe_valid : (all : List Value) → AreRead MAKE.now all → IsStripe (stripe_in all)
unfolding stripe_in
stripe_valid all read = record {
  label = (stripe_label all read).1;
  shape = record {
    from = stripe_cell all read;
    to = stripe_to_cell all read;
    step = let step = stripe_step all read in omega (arith, step);
  };
  some_frames = (ranged MAKE.now all 3 1 MAX_FRAMES read refl refl).0;
  not_too_many = (ranged MAKE.now all 3 1 MAX_FRAMES read refl refl).1;
  some_ticks = (ranged MAKE.now all 5 1 MAX_TICK_RATE read refl refl).0;
  not_too_fast = (ranged MAKE.now all 5 1 MAX_TICK_RATE read refl refl).1;
}

pub load_valid : (all : List Value) → AreRead LOAD.now all → IsLoading (load_in all)
unfolding load_in
load_valid all read = record {
  seed = seed_needed LOAD.now all 0 read refl refl;
  some = (ranged LOAD.now all 1 1 MAX_WORDS read refl refl).0;
  not_too_many = (ranged LOAD.now all 1 1 MAX_WORDS read refl refl).1;
}

-- ---- pictures

-- a count, or a system, whose pictures have lines
counts_lines : (said : Said) → IsSaidIn COUNT_WITH_LINES said → HasLines (system_with (count_of (Some (values.Said said))))
unfolding IsSaidIn choices
counts_lines said (inl same) = rw same tt
counts_lines said (inr (inl same)) = rw same tt
counts_lines said (inr (inr (inl same))) = rw same tt
counts_lines said (inr (inr (inr never))) = absurd never

has_lines : (said : Said) → IsSaidIn SYSTEM_WITH_LINES said → HasLines (system_of (Some (values.Said said)))
unfolding IsSaidIn choices
has_lines said (inl same) = rw same tt
has_lines said (inr (inl same)) = rw same tt
has_lines said (inr (inr never)) = absurd never

pub lines_label : (all : List Value) → AreRead LINES.now all → IsSome (label_in all 1)
    × IsLabel (label_at all 1) × ((label_at all 1).count ≡ count_at all 0)
lines_label all read =
    let is = label_needed LINES.now all 1 (count_at (take 1 all) 0) (kinds.Label 0) read refl refl (λ v fits. fits) in
    (is.0, is.1, is.2 ∙ ap count_of (seen_before all 1 0 (omega arith)))

pub lines_valid : (all : List Value) → AreRead LINES.now all → IsLineStripe (line_stripe_in all)
unfolding line_stripe_in
lines_valid all read =
    let (said, there, among) = said_needed LINES.now all 0 COUNT_WITH_LINES read refl refl in
    record {
      label = (lines_label all read).1;
      lines = rw ((lines_label all read).2, there) (counts_lines said among);
      some_frames = (ranged LINES.now all 2 1 MAX_FRAMES read refl refl).0;
      not_too_many = (ranged LINES.now all 2 1 MAX_FRAMES read refl refl).1;
      length = ranged LINES.now all 3 MIN_LINE_LENGTH MAX_LINE_LENGTH read refl refl;
    }

pub luma_system : (all : List Value) → AreRead LUMA.now all → HasLines (system_at all 0)
luma_system all read =
    let (said, there, among) = said_needed LUMA.now all 0 SYSTEM_WITH_LINES read refl refl in
    rw there (has_lines said among)

pub luma_raster : (all : List Value) → AreRead LUMA.now all
    → IsRaster (raster_of (number_or all 1 0) (number_or all 2 0) (number_or all 3 0) (number_or all 4 0))
luma_raster all read =
    let height = ranged LUMA.now all 2 1 MAX_HEIGHT read refl refl in
    let first = number_needed LUMA.now all 3 0 (min MAX_HEIGHT (number_or (take 3 all) 2 0 - 1))
    (kinds.Bounded 0 MAX_HEIGHT (Below 2)) read refl refl (λ v fits. fits) in
    let rows = number_needed LUMA.now all 4 1
    (min MAX_ROWS (number_or (take 4 all) 2 0 - number_or (take 4 all) 3 0))
    (kinds.Bounded 1 MAX_ROWS (Rest 2 3)) read refl refl (λ v fits. fits) in
    let of_height : number_or (take 4 all) 2 0 ≡ number_or all 2 0 = ap (number_of 0) (seen_before all 4 2 (omega arith)) in
    let of_first : number_or (take 4 all) 3 0 ≡ number_or all 3 0 = ap (number_of 0) (seen_before all 4 3 (omega arith)) in
    record {
      not_too_narrow = (ranged LUMA.now all 1 MIN_WIDTH MAX_WIDTH read refl refl).0;
      not_too_wide = (ranged LUMA.now all 1 MIN_WIDTH MAX_WIDTH read refl refl).1;
      some_rows = rows.0;
      not_too_many = omega (arith, rows.1);
      within = omega (arith, rows.0, rows.1, of_height, of_first);
      not_too_high = height.1;
    }
