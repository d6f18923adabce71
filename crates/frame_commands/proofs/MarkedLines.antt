-- The lines of frames are those of the words of the recording, and of invented frames that are marked and bounded.
use Rattle.std.proofs.Common.{◌≡◌, ℕ, List, map, Option, Some, None, refl}
use Rattle.std.specs.Prelude.{sum}
use Rattle.flywheel.specs.declared.heard.HeardWord.{HeardWord}
use Rattle.flywheel.specs.Frames.{frames}
use Rattle.flywheel.specs.Marked.{AreMarked, word_of, words_in}
use Rattle.tc_job.specs.declared.flight.Flight.{Flight}
use Rattle.interval_file.specs.declared.header.IntervalHeader.{IntervalHeader}
use Rattle.interval_file.specs.Recording.{recording_of}
use Rattle.interval_engine.specs.Along.{IsWholeOf}
use Rattle.interval_engine.specs.KeptBehind.{IsWholeBehind}
use Rattle.frame_commands.specs.LtcFly.{flown_recording, ShowsTheFrames}
use Rattle.frame_commands.specs.OfFrames.{frames_of, words_heard}
use Rattle.frame_commands.proofs.TapeIsHeard.{HearTheTape}

-- the frames of words are marked, and the words are in them
pub record FramesLaws : Type 0 where
  pub marked : (limit last : ℕ) (words : List HeardWord) → AreMarked limit None (frames limit words last)
  pub heard : (limit last : ℕ) (words : List HeardWord) → words_in (frames limit words last) ≡ map word_of words
  pub tape : HearTheTape

behind : FramesLaws → (flight : Flight) (bytes written : List ℕ) (header : Option IntervalHeader)
    → (recording_of bytes).header ≡ header
    → IsWholeBehind (flown_recording flight) header (recording_of bytes).intervals written
    → ShowsTheFrames flight bytes written
behind laws flight bytes written None begins is = absurd is
behind laws flight bytes written (Some header) begins is =
    let intervals = (recording_of bytes).intervals in
    record {
      header = header;
      begins = begins;
      events = is.events;
      are_events = is.are_events;
      frames = frames_of flight.limit intervals is.events;
      are_frames = refl;
      are = is.are;
      heard = laws.heard flight.limit (sum intervals) (words_heard is.events);
      marked = laws.marked flight.limit (sum intervals) (words_heard is.events);
      tape = laws.tape flight.witness header.system flight.profile intervals is.events is.are_events;
    }

pub shows_the_frames : FramesLaws → (flight : Flight) (bytes written : List ℕ)
    → IsWholeOf (flown_recording flight) (recording_of bytes) written
    → ShowsTheFrames flight bytes written
shows_the_frames laws flight bytes written output = behind laws flight bytes written _ refl output
