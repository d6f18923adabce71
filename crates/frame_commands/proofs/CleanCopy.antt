-- What is written of an input is a clean recording: the frames of its words have labels of its system, so each of
-- them is read back.
use Rattle.std.proofs.Common.{◌≡◌, ℕ, ◌≤◌, Bool, true, false, List, [], ◌∷◌, ◌∙◌, Some, None, refl, sym, subst}
use Rattle.std.proofs.Common.{append-nil}
use Rattle.std.proofs.Common.{arith}
use Rattle.std.specs.Prelude.{sum}
use Rattle.std.specs.declared.option.Option.{Option}
use Rattle.std.specs.List.{All}
use Rattle.biphase.specs.declared.cell.Cell.{Cell}
use Rattle.limits.specs.declared.recording.TheConstants.{MAX_INTERVAL}
use Rattle.biphase.specs.declared.profile.Profile.{Profile}
use Rattle.biphase.specs.declared.profile.Profile.TheVariants.{Normal}
use Rattle.biphase.specs.Chain.{flat}
use Rattle.biphase.specs.Shape.{Shape, IsShape, IsShaped, shape_with, shaped}
use Rattle.tc_address.specs.declared.system.System.{System}
use Rattle.direction_reader.specs.declared.event.Event.{Event}
use Rattle.direction_reader.specs.declared.event.Event.TheVariants.{Word, Refused, Lost}
use Rattle.direction_reader.specs.ListEvents.{AreEvents}
use Rattle.direction_reader.specs.Played.{bits_of_words}
use Rattle.flywheel.specs.declared.frame.Frame.{Frame}
use Rattle.flywheel.specs.declared.heard.HeardWord.{HeardWord}
use Rattle.flywheel.specs.Frames.{frames}
use Rattle.ltc_jam.specs.Cells.{clean_cells, clean_events, steady_cells, words_of_frames}
use Rattle.ltc_jam.specs.Labels.{AreEventsOf, AreFramesOf, AreHeardOf}
use Rattle.interval_file.specs.declared.header.IntervalHeader.{IntervalHeader}
use Rattle.interval_file.specs.Grammar.{AreIntervals, IsFile}
use Rattle.interval_file.specs.Recording.{Recording, recording_of}
use Rattle.tc_job.specs.Jam.{IsJamming, Jamming}
use Rattle.tc_job.specs.declared.witness.Witness.{Witness}
use Rattle.frame_commands.specs.Heard.{AreHeard}
use Rattle.interval_engine.specs.KeptBehind.{IsWholeBehind}
use Rattle.frame_commands.specs.LtcJam.{CleansTheInput, IsClean, clean_file, clean_header, clean_intervals}
use Rattle.frame_commands.specs.LtcJam.{clean_recording}
use Rattle.frame_commands.specs.OfFrames.{frames_of, words_heard}
use Rattle.interval_file.specs.KeptIntervals.{ShapesAreIntervals, in_range}
use Rattle.frame_commands.proofs.MarkedLines.{FramesLaws}

-- what the laws of the crates below say
pub record CleanLaws : Type 1 where
  pub shaped_so : (cell : ℕ) (list : List Bool) → steady_cells cell list ≡ shaped (shape_with cell cell 0) list
  pub read : (system : System) (cell : ℕ) (fs : List Frame) → IsShaped cell → AreFramesOf system fs
      → AreEvents system Normal (flat (clean_cells cell fs)) (clean_events cell fs)
  pub intervals : ShapesAreIntervals
  pub events : (witness : Witness) (system : System) (profile : Profile) (list : List ℕ) (es : List Event)
      → AreHeard witness system profile list es → AreEventsOf system es
  pub frames : (system : System) (limit : ℕ) (words : List HeardWord) (last : ℕ) → AreHeardOf system words
      → AreFramesOf system (frames limit words last)
  pub heard : FramesLaws

-- the words that are heard are those of the events
pub words_are : (system : System) (es : List Event) → AreEventsOf system es → AreHeardOf system (words_heard es)
words_are system [] are = tt
words_are system (Word d w t n ∷ more) are = (are.0, words_are system more are.1)
words_are system (Refused d f t ∷ more) are = words_are system more are.1
words_are system (Lost i t ∷ more) are = words_are system more are.1

-- each interval is in range
in_file : CleanLaws → (j : Jamming) (fs : List Frame) → IsJamming j → AreIntervals (clean_intervals j fs)
in_file laws j fs is =
    let list = false ∷ true ∷ bits_of_words (words_of_frames fs) in
    let shape : Shape = shape_with j.cell j.cell 0 in
    let is_shape : IsShape shape = record { from = is.cell; to = is.cell; step = omega arith } in
    in_range (clean_intervals j fs)
    (subst (λ (cells : List Cell). All (λ (x : ℕ). (1 ≤ x) × (x ≤ MAX_INTERVAL)) (flat cells))
    (sym (laws.shaped_so j.cell list))
    (laws.intervals shape list is_shape))

behind : CleanLaws → (j : Jamming) → IsJamming j → (input : Recording) (header : Option IntervalHeader)
    (written : List ℕ) → input.header ≡ header
    → IsWholeBehind (clean_recording j) header input.intervals written → IsClean j input written
behind laws j is input None written e whole = absurd whole
behind laws j is input (Some header) written e whole =
    let fs = frames_of j.flight.limit input.intervals whole.events in
    let some = is.some_ticks in
    let most = is.not_too_fast in
    let heard = words_are header.system whole.events
    (laws.events j.flight.witness header.system j.flight.profile input.intervals whole.events whole.are_events) in
    let file : IsFile written (clean_header j header) (clean_intervals j fs) = record {
      tick_rate = (omega arith, omega arith);
      range = in_file laws j fs is;
      are = whole.are ∙ append-nil (clean_file j header fs);
    } in
    let read = laws.read header.system j.cell fs is.cell
    (laws.frames header.system j.flight.limit (words_heard whole.events) (sum input.intervals) heard) in
    record {
      header = header;
      begins = e;
      events = whole.events;
      are_events = whole.are_events;
      frames = fs;
      are_frames = refl;
      heard = laws.heard.heard j.flight.limit (sum input.intervals) (words_heard whole.events);
      marked = laws.heard.marked j.flight.limit (sum input.intervals) (words_heard whole.events);
      tape = laws.heard.tape j.flight.witness header.system j.flight.profile input.intervals whole.events
          whole.are_events;
      file = file;
      read = read;
    }

pub copy_is_clean : CleanLaws → (j : Jamming) → IsJamming j → CleansTheInput j
copy_is_clean laws j is = λ input written whole. behind laws j is (recording_of input) (recording_of input).header
    written refl whole
