-- The report of the words of a tape, and nothing else.
use Rattle.std.specs.Prelude.{◌≡◌, ℕ, List, ◌++◌, length, drop, sum}
use Rattle.biphase.specs.declared.cell.Cell.{Cell}
use Rattle.direction_reader.specs.declared.event.Event.{Event}
use Rattle.direction_reader.specs.Played.{Played, events_of_words}
use Rattle.interval_commands.specs.LtcRead.{lines}
use Rattle.interval_file.specs.declared.header.IntervalHeader.{IntervalHeader}
use Rattle.report_text.specs.Texts.{read_end_line}
use Rattle.tape_sound.specs.OnTime.{AreOnTime}

-- the text is the report of these words, which are played from the tape's third cell on, and begin at a tick: a line
-- for each of them, in order, with a tick and a length that are those of the tape, but for the delay. The last line
-- counts the intervals and their ticks, the words, and nothing refused or lost
pub record ReportsWords (header : IntervalHeader) (delay tick : ℕ) (tape : List Cell) (words : List Played)
    (intervals text : List ℕ) : Type 0 where
  pub events : List Event
  pub on_time : AreOnTime delay events (events_of_words tick (drop 2 tape) words)
  pub are : text ≡ lines header events ++ read_end_line (length intervals) (length words) 0 0 (sum intervals)
