-- `ltc-spans`: the spans of a recording, from its frames.
use Rattle.std.specs.Prelude.{◌≡◌, ℕ, false, List, ◌++◌, length, sum, map, All, Some, None}
use Rattle.std.specs.List.{flat_map}
use Rattle.direction_reader.specs.declared.event.Event.{Event}
use Rattle.flywheel.specs.declared.frame.Frame.{Frame}
use Rattle.flywheel.specs.Marked.{word_of, words_in}
use Rattle.tape_spans.specs.InOrder.{DoNotFall, span_ticks}
use Rattle.tape_spans.specs.Shared.{HoldsTogether, frames_in, present}
use Rattle.tape_spans.specs.Spans.{frames_of_spans, spans}
use Rattle.tape_spans.specs.SpanTexts.{final_lines, last_spans_line, lines_behind, open_line}
use Rattle.tape_spans.specs.Stepped.{EndsStepped}
use Rattle.interval_file.specs.declared.header.IntervalHeader.{IntervalHeader}
use Rattle.interval_file.specs.Recording.{recording_of}
use Rattle.tc_job.specs.declared.flight.Flight.{Flight}
use Rattle.interval_engine.specs.Along.{Printing, along_intervals}
use Rattle.frame_commands.specs.Heard.{AreHeard}
use Rattle.frame_commands.specs.HeardTape.{HearsTheTape}
use Rattle.frame_commands.specs.OfFrames.{FrameText, along_frames, frames_of, words_heard}
use Rattle.tc_command.specs.Told.{Told}

-- the lines of the spans of frames, with the header's tick rate and system: each has its own, and between two of them
-- stands that of the gap
abbrev pub span_lines : IntervalHeader → List Frame → List ℕ
span_lines header fs = lines_behind header.tick_rate header.system None (spans fs)

-- the line that counts them
abbrev pub spans_counted : List ℕ → List Frame → List ℕ
spans_counted intervals fs = last_spans_line (length intervals) (spans fs) (sum intervals)

-- before the end, the lines that are final whatever frames follow; and last the line of the span that is open, and
-- that which counts them
abbrev pub lines_of_spans : FrameText
lines_of_spans = record {
  text = λ header fs. final_lines header.tick_rate header.system fs;
  last = λ header intervals fs. open_line header.tick_rate header.system fs ++ spans_counted intervals fs;
  most = None;
}

-- what is written of frames that are had so
abbrev pub spanned_recording : Flight → Printing
spanned_recording flight = along_frames flight lines_of_spans

-- what was written are the lines of the spans of the recording's frames, and the line that counts them. The heard
-- frames are its words under the tolerance of the flight. Each frame that was heard or invented is in exactly one
-- span, in order; a span begins with a heard frame that does not join, and each further frame of it goes on from the
-- one before, so that its last label is the first one, stepped by the frames that were heard and bridged behind it. The
-- ticks at which a span begins and ends do not fall, from span to span, up to the sum of the intervals. And these words
-- tell the tape
pub record ShowsTheSpans (flight : Flight) (bytes written : List ℕ) : Type 0 where
  pub header : IntervalHeader
  pub begins : (recording_of bytes).header ≡ Some header
  pub events : List Event
  pub are_events : AreHeard flight.witness header.system flight.profile (recording_of bytes).intervals events
  pub frames : List Frame
  pub are_frames : frames ≡ frames_of flight.limit (recording_of bytes).intervals events
  pub are : written ≡ span_lines header frames ++ spans_counted (recording_of bytes).intervals frames
  pub heard : words_in frames ≡ map word_of (words_heard events)
  pub all : present frames ≡ flat_map frames_in (frames_of_spans frames)
  pub together : All HoldsTogether (frames_of_spans frames)
  pub stepped : All EndsStepped (spans frames)
  pub in_order : DoNotFall 0 (span_ticks (spans frames)) (sum (recording_of bytes).intervals)
  pub tape : HearsTheTape flight.witness header.system flight.profile (recording_of bytes).intervals events

-- what is told of it
abbrev pub told_ltc_spans : Flight → Told
told_ltc_spans flight = record {
  meaning = along_intervals (spanned_recording flight);
  promise = ShowsTheSpans flight;
  has_own_limit = false;
}
