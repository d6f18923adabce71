-- `ltc-mtc`: the frames of a recording as MIDI Time Code.
use Rattle.std.specs.Prelude.{◌≡◌, List, ℕ, [], map, Some, None, false}
use Rattle.direction_reader.specs.declared.event.Event.{Event}
use Rattle.flywheel.specs.declared.frame.Frame.{Frame}
use Rattle.flywheel.specs.Marked.{AreMarked, word_of, words_in}
use Rattle.interval_file.specs.declared.header.IntervalHeader.{IntervalHeader}
use Rattle.interval_file.specs.Recording.{recording_of}
use Rattle.quarter_frame.specs.Runs.{mtc_of}
use Rattle.tc_job.specs.declared.flight.Flight.{Flight}
use Rattle.interval_engine.specs.Along.{Printing, along_intervals}
use Rattle.frame_commands.specs.Heard.{AreHeard}
use Rattle.frame_commands.specs.HeardTape.{HearsTheTape}
use Rattle.frame_commands.specs.OfFrames.{FrameText, along_frames, frames_of, words_heard}
use Rattle.tc_command.specs.Told.{Told}

-- the messages of the frames, and nothing last
abbrev pub messages_of_frames : FrameText
messages_of_frames = record { text = λ header fs. mtc_of fs; last = λ header intervals fs. []; most = None }

-- what is written of frames that are had so
abbrev pub time_code : Flight → Printing
time_code flight = along_frames flight messages_of_frames

-- what was written are the messages of the frames of the recording. The heard frames are its words under the tolerance
-- of the flight, between two of them and after the last no more than the limit is invented, and these words tell the
-- tape. What is read of the messages is said at `mtc-read`
pub record SendsTheWords (flight : Flight) (bytes written : List ℕ) : Type 0 where
  pub header : IntervalHeader
  pub begins : (recording_of bytes).header ≡ Some header
  pub events : List Event
  pub are_events : AreHeard flight.witness header.system flight.profile (recording_of bytes).intervals events
  pub frames : List Frame
  pub are_frames : frames ≡ frames_of flight.limit (recording_of bytes).intervals events
  pub are : written ≡ mtc_of frames
  pub heard : words_in frames ≡ map word_of (words_heard events)
  pub marked : AreMarked flight.limit None frames
  pub tape : HearsTheTape flight.witness header.system flight.profile (recording_of bytes).intervals events

-- what is told of it
abbrev pub told_ltc_mtc : Flight → Told
told_ltc_mtc flight = record {
  meaning = along_intervals (time_code flight);
  promise = SendsTheWords flight;
  has_own_limit = false;
}
