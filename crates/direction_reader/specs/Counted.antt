-- The events of a list of intervals where a word counts only if another one beside it counts on with it. The labels of
-- words that follow one another on a tape go on by one for each frame, and so do their places; a word that a cut made
-- of two has neither. The rule is this project's own.
use Rattle.std.specs.Prelude.{◌≡◌, ℕ, ◌+◌, ◌-◌, ◌*◌, ◌&&◌, ◌||◌, nat_le, Bool, false, List, [], ◌∷◌, Option, Some, None}
use Rattle.biphase.specs.declared.profile.Profile.{Profile}
use Rattle.flywheel.specs.declared.heard.HeardWord.{HeardWord}
use Rattle.flywheel.specs.Frames.{is_next}
use Rattle.tc_address.specs.declared.system.System.{System}
use Rattle.direction_reader.specs.declared.event.Event.{Event}
use Rattle.direction_reader.specs.declared.event.Event.TheVariants.{Word, Refused, Lost}
use Rattle.direction_reader.specs.declared.firm_event.FirmEvent.{FirmEvent}
use Rattle.direction_reader.specs.Consecutive.{heard_as}
use Rattle.direction_reader.specs.Firm.{judged}
use Rattle.direction_reader.specs.ListEvents.{AreEvents}

-- the word that an event is, if it is one
abbrev pub heard_of : Event → Option HeardWord
heard_of (Word direction word tick length) = Some (heard_as direction word tick length)
heard_of (Refused direction fault tick) = None
heard_of (Lost interval tick) = None

-- the word of an event that may be there
abbrev pub heard_at : Option Event → Option HeardWord
heard_at None = None
heard_at (Some event) = heard_of event

-- one word ends so many frames behind another, to within three tenths of a frame: a frame is the mean of their lengths
abbrev pub lies_behind : HeardWord → ℕ → HeardWord → Bool
lies_behind first frames second =
    let both = first.length + second.length in
    let apart = 20 * (second.tick - first.tick) in
    nat_le ((10 * frames - 3) * both) apart && nat_le apart ((10 * frames + 3) * both)

-- it has the first one's direction, the label that is so many frames on in that direction, and the place
abbrev pub is_frames_on : HeardWord → ℕ → HeardWord → Bool
is_frames_on first frames second = is_next first frames second && lies_behind first frames second

-- of two words the second counts on from the first: it is that of the next frame, or of the one behind it
abbrev pub counts_on : Option HeardWord → Option HeardWord → Bool
counts_on None second = false
counts_on (Some first) None = false
counts_on (Some first) (Some second) = is_frames_on first 1 second || is_frames_on first 2 second

-- of two words that may be there the later one
abbrev pub later_word : Option HeardWord → Option HeardWord → Option HeardWord
later_word before None = before
later_word before (Some word) = Some word

-- the first of events
abbrev pub next_of : List Event → Option Event
next_of [] = None
next_of (event ∷ more) = Some event

-- an event counts between the latest word before it and the event that comes next: it counts on from that word, or the
-- next event is a word that counts on from it
abbrev pub does_count : Option HeardWord → Event → Option Event → Bool
does_count before event next = counts_on before (heard_of event) || counts_on (heard_of event) (heard_at next)

-- what becomes of events, behind a word that may be there: a word that does not count is alone, all else stays as it is
abbrev pub counted_behind : Option HeardWord → List Event → List FirmEvent
counted_behind before [] = []
counted_behind before (event ∷ more) =
    judged (does_count before event (next_of more)) event ∷ counted_behind (later_word before (heard_of event)) more

-- what becomes of all events of a list
abbrev pub counted : List Event → List FirmEvent
counted events = counted_behind None events

-- the events of a list of intervals: those that need nothing, and what becomes of each
abbrev pub AreCountedEvents : System → Profile → List ℕ → List FirmEvent → Type 0
AreCountedEvents system profile intervals told = (events : List Event)
    × AreEvents system profile intervals events × (told ≡ counted events)
