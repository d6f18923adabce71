-- The spans of the words of a tape, and of nothing else.
use Rattle.std.specs.Prelude.{◌≡◌, ℕ, List, ◌++◌, drop}
use Rattle.biphase.specs.declared.cell.Cell.{Cell}
use Rattle.direction_reader.specs.declared.event.Event.{Event}
use Rattle.direction_reader.specs.Played.{Played, events_of_words}
use Rattle.frame_commands.specs.LtcSpans.{span_lines, spans_counted}
use Rattle.frame_commands.specs.OfFrames.{frames_of}
use Rattle.interval_file.specs.declared.header.IntervalHeader.{IntervalHeader}
use Rattle.tape_sound.specs.OnTime.{AreOnTime}
use Rattle.tc_job.specs.declared.flight.Flight.{Flight}

-- the text has the spans of these words, which are played from the tape's third cell on, and begin at a tick: of the
-- frames that a flywheel makes of them, where each has a tick and a length that are those of the tape, but for the
-- delay, and nothing is refused or lost. The last line counts them
pub record TellsSpans (header : IntervalHeader) (flight : Flight) (delay tick : ℕ) (tape : List Cell)
    (words : List Played) (intervals text : List ℕ) : Type 0 where
  pub events : List Event
  pub on_time : AreOnTime delay events (events_of_words tick (drop 2 tape) words)
  pub are : text ≡ span_lines header (frames_of flight.limit intervals events)
      ++ spans_counted intervals (frames_of flight.limit intervals events)
