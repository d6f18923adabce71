-- What is sent are the messages of the words of the recording, and of invented frames within the limit.
use Rattle.std.proofs.Common.{◌≡◌, ◌∙◌, ℕ, List, Option, Some, None, append-nil, refl}
use Rattle.std.specs.Prelude.{sum}
use Rattle.quarter_frame.specs.Runs.{mtc_of}
use Rattle.tc_job.specs.declared.flight.Flight.{Flight}
use Rattle.interval_file.specs.declared.header.IntervalHeader.{IntervalHeader}
use Rattle.interval_file.specs.Recording.{recording_of}
use Rattle.interval_engine.specs.Along.{IsWholeOf}
use Rattle.interval_engine.specs.KeptBehind.{IsWholeBehind}
use Rattle.frame_commands.specs.LtcMtc.{SendsTheWords, time_code}
use Rattle.frame_commands.specs.OfFrames.{frames_of, words_heard}
use Rattle.frame_commands.proofs.MarkedLines.{FramesLaws}

behind : FramesLaws → (flight : Flight) (bytes written : List ℕ) (header : Option IntervalHeader)
    → (recording_of bytes).header ≡ header
    → IsWholeBehind (time_code flight) header (recording_of bytes).intervals written
    → SendsTheWords flight bytes written
behind laws flight bytes written None begins is = absurd is
behind laws flight bytes written (Some header) begins is =
    let intervals = (recording_of bytes).intervals in
    let fs = frames_of flight.limit intervals is.events in
    record {
      header = header;
      begins = begins;
      events = is.events;
      are_events = is.are_events;
      frames = fs;
      are_frames = refl;
      are = is.are ∙ append-nil (mtc_of fs);
      heard = laws.heard flight.limit (sum intervals) (words_heard is.events);
      marked = laws.marked flight.limit (sum intervals) (words_heard is.events);
      tape = laws.tape flight.witness header.system flight.profile intervals is.events is.are_events;
    }

pub sends_the_words : FramesLaws → (flight : Flight) (bytes written : List ℕ)
    → IsWholeOf (time_code flight) (recording_of bytes) written → SendsTheWords flight bytes written
sends_the_words laws flight bytes written output = behind laws flight bytes written _ refl output
