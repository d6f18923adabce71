-- `ltc-jam`: the frames of a recording anew, in cells of one length.
use Rattle.std.specs.Prelude.{◌≡◌, ℕ, false, List, [], Some, None, map}
use Rattle.biphase.specs.Chain.{flat}
use Rattle.flywheel.specs.declared.frame.Frame.{Frame}
use Rattle.flywheel.specs.Marked.{AreMarked, word_of, words_in}
use Rattle.ltc_jam.specs.Cells.{clean_cells, clean_events}
use Rattle.interval_file.specs.declared.header.FileVersion.TheVariants.{One}
use Rattle.interval_file.specs.declared.header.IntervalHeader.{IntervalHeader}
use Rattle.interval_file.specs.Grammar.{IsFile, file_of}
use Rattle.tc_job.specs.Jam.{Jamming}
use Rattle.interval_engine.specs.Along.{IsWholeOf, Printing, along_intervals}
use Rattle.frame_commands.specs.Heard.{AreHeard}
use Rattle.frame_commands.specs.HeardTape.{HearsTheTape}
use Rattle.frame_commands.specs.OfFrames.{FrameText, along_frames, frames_of, words_heard}
use Rattle.biphase.specs.declared.profile.Profile.TheVariants.{Normal}
use Rattle.direction_reader.specs.declared.event.Event.{Event}
use Rattle.direction_reader.specs.ListEvents.{AreEvents}
use Rattle.interval_file.specs.Recording.{Recording, recording_of}
use Rattle.tc_command.specs.Told.{Told}

-- the header of the clean recording: version 1, the system of the input, and the tick rate of the words
abbrev pub clean_header : Jamming → IntervalHeader → IntervalHeader
clean_header j header = record { version = One; system = header.system; tick_rate = j.tick_rate }

-- the intervals of these frames
abbrev pub clean_intervals : Jamming → List Frame → List ℕ
clean_intervals j frames = flat (clean_cells j.cell frames)

-- the file of these frames
abbrev pub clean_file : Jamming → IntervalHeader → List Frame → List ℕ
clean_file j header frames = file_of (clean_header j header) (clean_intervals j frames)

-- this file, and nothing last
abbrev pub file_of_frames : Jamming → FrameText
file_of_frames j = record { text = clean_file j; last = λ header intervals frames. []; most = None }

-- what is written
abbrev pub clean_recording : Jamming → Printing
clean_recording j = along_frames j.flight (file_of_frames j)

-- what was written is a file of the input's system, and of its intervals each frame of the input that was heard or
-- invented is read, in order and in its place, and nothing else: no word is refused, and no code is lost. The heard
-- frames are the words of the input, between two of them and after the last at most the limit is invented, and these
-- words tell the tape
pub record IsClean (j : Jamming) (input : Recording) (written : List ℕ) : Type 0 where
  pub header : IntervalHeader
  pub begins : input.header ≡ Some header
  pub events : List Event
  pub are_events : AreHeard j.flight.witness header.system j.flight.profile input.intervals events
  pub frames : List Frame
  pub are_frames : frames ≡ frames_of j.flight.limit input.intervals events
  pub heard : words_in frames ≡ map word_of (words_heard events)
  pub marked : AreMarked j.flight.limit None frames
  pub tape : HearsTheTape j.flight.witness header.system j.flight.profile input.intervals events
  pub file : IsFile written (clean_header j header) (clean_intervals j frames)
  pub read : AreEvents header.system Normal (clean_intervals j frames) (clean_events j.cell frames)

-- what is written of a whole input is
abbrev pub CleansTheInput : Jamming → Type 0
CleansTheInput j = (input written : List ℕ) → IsWholeOf (clean_recording j) (recording_of input) written
    → IsClean j (recording_of input) written

-- what is told of it
abbrev pub told_ltc_jam : Jamming → Told
told_ltc_jam j = record {
  meaning = along_intervals (clean_recording j);
  promise = λ pulled. IsClean j (recording_of pulled);
  has_own_limit = false;
}
