-- `ltc-fly`: a line of each frame of a recording.
use Rattle.std.specs.Prelude.{◌≡◌, ℕ, false, List, ◌++◌, length, count_by, sum, map, Some, None}
use Rattle.std.specs.List.{flat_map}
use Rattle.direction_reader.specs.declared.event.Event.{Event}
use Rattle.flywheel.specs.declared.frame.Frame.{Frame}
use Rattle.flywheel.specs.Marked.{AreMarked, word_of, words_in}
use Rattle.report_text.specs.FrameTexts.{frame_line, fly_end_line}
use Rattle.interval_file.specs.declared.header.IntervalHeader.{IntervalHeader}
use Rattle.interval_file.specs.Recording.{recording_of}
use Rattle.tc_job.specs.declared.flight.Flight.{Flight}
use Rattle.interval_engine.specs.Along.{Printing, along_intervals}
use Rattle.frame_commands.specs.Heard.{AreHeard}
use Rattle.frame_commands.specs.HeardTape.{HearsTheTape}
use Rattle.frame_commands.specs.OfFrames.{FrameText, along_frames, frames_of, words_heard}
use Rattle.flywheel.specs.Kinds.{is_gone, is_heard, is_invented}
use Rattle.tc_command.specs.Told.{Told}

-- the lines of frames, one after another
abbrev pub frame_lines : List Frame → List ℕ
frame_lines fs = flat_map frame_line fs

-- the last line counts the intervals, the frames of each kind and the ticks
abbrev pub last_fly_line : List ℕ → List Frame → List ℕ
last_fly_line intervals fs =
    fly_end_line (length intervals) (count_by is_heard fs) (count_by is_invented fs) (count_by is_gone fs)
    (sum intervals)

-- the lines of the frames, and the last line
abbrev pub lines_of_frames : FrameText
lines_of_frames = record { text = λ header fs. frame_lines fs; last = λ header. last_fly_line; most = None }

-- what is written of frames that are had so
abbrev pub flown_recording : Flight → Printing
flown_recording flight = along_frames flight lines_of_frames

-- what was written are the lines of the frames of the recording, and the line that counts them. The heard frames are
-- its words under the tolerance of the flight, one after another, each with its label, its direction and its tick;
-- between two of them, and after the last, no more than the limit is invented, and each has its step in its line. And
-- these words tell the tape
pub record ShowsTheFrames (flight : Flight) (bytes written : List ℕ) : Type 0 where
  pub header : IntervalHeader
  pub begins : (recording_of bytes).header ≡ Some header
  pub events : List Event
  pub are_events : AreHeard flight.witness header.system flight.profile (recording_of bytes).intervals events
  pub frames : List Frame
  pub are_frames : frames ≡ frames_of flight.limit (recording_of bytes).intervals events
  pub are : written ≡ frame_lines frames ++ last_fly_line (recording_of bytes).intervals frames
  pub heard : words_in frames ≡ map word_of (words_heard events)
  pub marked : AreMarked flight.limit None frames
  pub tape : HearsTheTape flight.witness header.system flight.profile (recording_of bytes).intervals events

-- what is told of it
abbrev pub told_ltc_fly : Flight → Told
told_ltc_fly flight = record {
  meaning = along_intervals (flown_recording flight);
  promise = ShowsTheFrames flight;
  has_own_limit = false;
}
