-- What `ltc-mtc` sends of a recording is what `mtc-read` reads in it: the frames of the recording.
use Rattle.std.specs.Prelude.{◌≡◌, ℕ, List, ◌++◌, length, count_by, Some}
use Rattle.direction_reader.specs.declared.event.Event.{Event}
use Rattle.mtc_reader.specs.declared.event.MtcEvent.{MtcEvent}
use Rattle.mtc_reader.specs.Events.{events_in}
use Rattle.mtc_reader.specs.Texts.{end_line}
use Rattle.quarter_frame.specs.ReadAgain.{read_of}
use Rattle.interval_file.specs.declared.header.IntervalHeader.{IntervalHeader}
use Rattle.interval_file.specs.Recording.{recording_of}
use Rattle.tc_job.specs.declared.flight.Flight.{Flight}
use Rattle.tc_job.specs.declared.job.Job.TheVariants.{MtcRead}
use Rattle.tc_top.specs.Commands.{meaning_of}
use Rattle.tc_command.specs.Meaning.{Meaning}
use Rattle.signal_commands.specs.MtcRead.{event_lines, is_full, is_quarter}
use Rattle.frame_commands.specs.Heard.{AreHeard}
use Rattle.frame_commands.specs.OfFrames.{frames_of}

-- the last line of `mtc-read`, of bytes in which these labels are read, and no address is refused
abbrev pub none_refused : List ℕ → List MtcEvent → List ℕ
none_refused bytes labels = end_line (length bytes) (count_by is_full labels) (count_by is_quarter labels) 0

-- the labels that a reader finds in what was written are those of the frames of the recording, which are had so: run
-- by run a full message with the first label, and then one label for each two frames, each at the byte that completes
-- it. And within the limit of `mtc-read` its report of them is known: a line for each of these labels, and the last
-- line that counts them
pub record SendsTheFrames (flight : Flight) (bytes written : List ℕ) : Type 0 where
  pub header : IntervalHeader
  pub begins : (recording_of bytes).header ≡ Some header
  pub events : List Event
  pub are_events : AreHeard flight.witness header.system flight.profile (recording_of bytes).intervals events
  pub labels : List MtcEvent
  pub are_labels : labels ≡ read_of (frames_of flight.limit (recording_of bytes).intervals events)
  pub read : events_in written ≡ labels
  pub report : (text : List ℕ) → Meaning.output (meaning_of MtcRead) written text
      → text ≡ event_lines labels ++ none_refused written labels
