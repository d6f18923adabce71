-- A command that writes what it makes of the frames of a recording: those of the words heard in it, and those that a
-- flywheel invents between them.
use Rattle.std.specs.Prelude.{◌≡◌, ℕ, ◌<◌, List, [], ◌∷◌, ◌++◌, length, sum, Option, Some, None}
use Rattle.std.specs.List.{flat_map}
use Rattle.direction_reader.specs.declared.event.Event.{Event}
use Rattle.direction_reader.specs.declared.event.Event.TheVariants as event
use Rattle.flywheel.specs.declared.frame.Frame.{Frame}
use Rattle.flywheel.specs.declared.heard.HeardWord.{HeardWord}
use Rattle.flywheel.specs.Frames.{frames}
use Rattle.interval_file.specs.declared.header.IntervalHeader.{IntervalHeader}
use Rattle.tc_job.specs.declared.flight.Flight.{Flight}
use Rattle.tc_job.specs.declared.witness.Witness.{Witness}
use Rattle.interval_engine.specs.Along.{Printing}
use Rattle.frame_commands.specs.Heard.{AreHeard, AreHeardYet}

-- the word that the flywheel hears of an event, if it is one
abbrev pub heard_in : Event → List HeardWord
heard_in (event.Word direction word tick length) =
    record { label = word.fields.label; direction = direction; tick = tick; length = length } ∷ []
heard_in (event.Refused direction fault tick) = []
heard_in (event.Lost interval tick) = []

-- the words of events, in order
abbrev pub words_heard : List Event → List HeardWord
words_heard events = flat_map heard_in events

-- the frames of the words of events, up to a tick
abbrev pub frames_until : ℕ → List Event → ℕ → List Frame
frames_until limit events until = frames limit (words_heard events) until

-- the frames of the intervals whose events these are: of their words, up to the sum of the intervals
abbrev pub frames_of : ℕ → List ℕ → List Event → List Frame
frames_of limit intervals events = frames_until limit events (sum intervals)

-- what a command makes of frames
pub record FrameText : Type 0 where
  -- what is written behind the header and these frames, before their end
  pub text : IntervalHeader → List Frame → List ℕ
  -- what is written last behind this header, of the intervals and all of their frames
  pub last : IntervalHeader → List ℕ → List Frame → List ℕ
  -- how many frames it takes at most, if it has a limit
  pub most : Option ℕ

-- these are more frames than the limit, where there is one
abbrev pub AreTooMany : Option ℕ → List Frame → Type 0
AreTooMany None fs = ⊥
AreTooMany (Some most) fs = most < length fs

-- before the end: what is made of the frames of the words that are told, up to the tick up to which they are. They are
-- read under the tolerance of the flight, and each needs a witness, or not
pub record IsFlightPart (witness : Witness) (flight : Flight) (made : FrameText) (header : IntervalHeader)
    (intervals written : List ℕ) : Type 0 where
  pub events : List Event
  pub until : ℕ
  pub are_events : AreHeardYet witness header.system flight.profile intervals events until
  pub are : written ≡ made.text header (frames_until flight.limit events until)

-- the whole: what is made of the frames of all words, and what is written last
pub record IsFlightWhole (witness : Witness) (flight : Flight) (made : FrameText) (header : IntervalHeader)
    (intervals written : List ℕ) : Type 0 where
  pub events : List Event
  pub are_events : AreHeard witness header.system flight.profile intervals events
  pub are : written ≡ made.text header (frames_of flight.limit intervals events)
      ++ made.last header intervals (frames_of flight.limit intervals events)

-- the frames of the words that are told are too many
pub record IsFlightSpent (witness : Witness) (flight : Flight) (made : FrameText) (header : IntervalHeader)
    (intervals : List ℕ) : Type 0 where
  pub events : List Event
  pub until : ℕ
  pub are_events : AreHeardYet witness header.system flight.profile intervals events until
  pub too_many : AreTooMany made.most (frames_until flight.limit events until)

-- what is written of the frames that are had so
abbrev pub along_frames_with : Witness → Flight → FrameText → Printing
along_frames_with witness flight made = record {
  spent = IsFlightSpent witness flight made;
  part = IsFlightPart witness flight made;
  whole = IsFlightWhole witness flight made;
}

-- what a command writes of the frames of a flight, with its tolerance and witness
abbrev pub along_frames : Flight → FrameText → Printing
along_frames flight made = along_frames_with flight.witness flight made
