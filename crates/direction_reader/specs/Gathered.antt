-- The events of a list of intervals as the reader gathers them: each word is one that its bits spell. They are the
-- events of the list (`AreEvents`), which the law `events_are_those_that_are_spelled` says.
use Rattle.std.specs.Prelude.{◌≡◌, ℕ, List, [], ◌∷◌, ◌++◌, take, sum}
use Rattle.biphase.specs.declared.profile.Profile.{Profile}
use Rattle.cell_tracker.specs.Stretch.{Stretch, AreStretches}
use Rattle.tc_address.specs.declared.system.System.{System}
use Rattle.direction_reader.specs.declared.event.Event.{Event}
use Rattle.direction_reader.specs.declared.event.Events.{Events}
use Rattle.direction_reader.specs.Candidate.{AreEventsOf}
use Rattle.direction_reader.specs.Events.{event_list}
use Rattle.direction_reader.specs.Windows.{CellWindow, windows}
use Rattle.direction_reader.specs.ListEvents.{break_events}

-- the tick at which a stretch begins
abbrev pub begin_of : List ℕ → Stretch → ℕ
begin_of intervals stretch = sum (take stretch.lock intervals)

-- the events of windows, one window after another
abbrev pub AreEventsOfWindows : System → List CellWindow → List Event → Type 0
AreEventsOfWindows system [] events = events ≡ []
AreEventsOfWindows system (window ∷ more) events = (own : Events) × (rest : List Event)
    × AreEventsOf system window.bits window.end window.length own × AreEventsOfWindows system more rest
    × (events ≡ event_list own ++ rest)

-- the events of a stretch: those of its windows, and then its break
abbrev pub AreEventsOfStretch : System → List ℕ → Stretch → List Event → Type 0
AreEventsOfStretch system intervals stretch events = (own : List Event)
    × AreEventsOfWindows system (windows (begin_of intervals stretch) stretch.cells) own
    × (events ≡ own ++ break_events intervals stretch.broken_at)

-- the events of stretches, one stretch after another
abbrev pub AreEventsOfStretches : System → List ℕ → List Stretch → List Event → Type 0
AreEventsOfStretches system intervals [] events = events ≡ []
AreEventsOfStretches system intervals (stretch ∷ more) events = (own rest : List Event)
    × AreEventsOfStretch system intervals stretch own × AreEventsOfStretches system intervals more rest
    × (events ≡ own ++ rest)

-- the events of a list of intervals
abbrev pub AreGathered : System → Profile → List ℕ → List Event → Type 0
AreGathered system profile intervals events = (stretches : List Stretch)
    × AreStretches profile intervals stretches × AreEventsOfStretches system intervals stretches events
