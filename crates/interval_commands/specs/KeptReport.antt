-- What the engine of `ltc-read` keeps. No promise speaks of it.
use Rattle.std.specs.Prelude.{◌≡◌, ℕ, ◌+◌, ◌*◌, ◌≤◌, List, [], ◌∷◌, ◌++◌, length, count_by, IfSome}
use Rattle.direction_reader.specs.declared.event.Event.{Event}
use Rattle.direction_reader.specs.declared.event.Event.TheVariants.{Word, Refused, Lost}
use Rattle.biphase.specs.declared.profile.Profile.{Profile}
use Rattle.direction_reader.specs.declared.event.Events.{Events}
use Rattle.direction_reader.specs.ListEvents.{AreEvents}
use Rattle.direction_reader.specs.StandsFor.{StandsFor}
use Rattle.direction_reader.specs.Tracker.{profile_of}
use Rattle.limits.specs.declared.recording.TheConstants.{MAX_INTERVALS}
use Rattle.interval_file.specs.declared.header.IntervalHeader.{IntervalHeader}
use Rattle.interval_file.specs.IntervalHeader.{IsTickRate}
use Rattle.report_text.specs.Texts.{FitsLine}
use Rattle.interval_commands.specs.declared.ltc_read.Report.{Report}
use Rattle.direction_reader.specs.Events.{event_list, is_word, is_refused, is_lost}
use Rattle.interval_commands.specs.LtcRead.{lines, IsReadPart}

-- one event more of its kind
abbrev pub counted : Event → Report → Report
counted (Word direction word tick length) r = record r { words = r.words + 1 }
counted (Refused direction fault tick) r = record r { refused = r.refused + 1 }
counted (Lost interval tick) r = record r { lost = r.lost + 1 }

-- all of these events more
abbrev pub all_counted : List Event → Report → Report
all_counted [] r = r
all_counted (event ∷ more) r = all_counted more (counted event r)

-- the numbers of the events fit their lines
pub record FitLines (events : Events) : Type 0 where
  pub first : IfSome events.first FitsLine
  pub second : IfSome events.second FitsLine

-- an interval brings two events at most
pub record FitsReport (r : Report) : Type 0 where
  pub within : r.reader.intervals ≤ MAX_INTERVALS
  pub header : IsTickRate r.header.tick_rate
  pub events : r.words + r.refused + r.lost ≤ 2 * r.reader.intervals

-- the reader took an interval, and these are its events
pub record Feeds (before after : Report) (x : ℕ) (own : Events) : Type 0 where
  pub stands : (intervals : List ℕ) (events : List Event) → StandsFor before.reader intervals events
      → StandsFor after.reader (intervals ++ x ∷ []) (events ++ event_list own)

-- each of these events was counted
pub record Counts (before after : Report) (events : List Event) : Type 0 where
  pub words : after.words ≡ before.words + count_by is_word events
  pub refused : after.refused ≡ before.refused + count_by is_refused events
  pub lost : after.lost ≡ before.lost + count_by is_lost events

-- it was given these intervals behind this header, and printed their events
pub record Stands (r : Report) (profile : Profile) (header : IntervalHeader) (intervals written : List ℕ) : Type 0 where
  pub says : r.header ≡ header
  pub system : r.reader.system ≡ header.system
  pub keeps : profile_of r.reader.tracker ≡ profile
  pub events : List Event
  pub reader : StandsFor r.reader intervals events
  pub are_events : AreEvents header.system profile intervals events
  pub are : written ≡ lines header events
  pub words : r.words ≡ count_by is_word events
  pub refused : r.refused ≡ count_by is_refused events
  pub lost : r.lost ≡ count_by is_lost events

-- what was printed is a part of the report
pub stands_well : (r : Report) (profile : Profile) (header : IntervalHeader) (intervals written : List ℕ)
    → Stands r profile header intervals written → IsReadPart profile header intervals written
stands_well r profile header intervals written stands =
    record { events = stands.events; are_events = stands.are_events; are = stands.are }
