-- The events of a list of intervals where a word that has no witness counts all the same if the word that follows it on
-- the tape joins it. On a tape each word begins where the one before it ends, and has the next label. The word that
-- follows comes next if the tape is played forward, and came just before if it is played backward. The rule is this
-- project's own.
use Rattle.std.specs.Prelude.{◌≡◌, ℕ, ◌+◌, ◌==◌, ◌&&◌, Bool, false, List, [], ◌∷◌, Option, Some, None}
use Rattle.std.specs.Prelude.{if◌then◌else◌}
use Rattle.biphase.specs.declared.profile.Profile.{Profile}
use Rattle.flywheel.specs.declared.heard.HeardWord.{HeardWord}
use Rattle.flywheel.specs.Frames.{is_next}
use Rattle.ltc_word.specs.declared.word.LtcWord.{LtcWord}
use Rattle.tc_address.specs.declared.direction.Direction.{Direction}
use Rattle.tc_address.specs.declared.direction.Direction.TheVariants.{Forward, Backward}
use Rattle.tc_address.specs.declared.system.System.{System}
use Rattle.direction_reader.specs.declared.event.Event.TheVariants.{Word, Refused, Lost}
use Rattle.direction_reader.specs.declared.firm_event.FirmEvent.{FirmEvent}
use Rattle.direction_reader.specs.declared.firm_event.FirmEvent.TheVariants.{Told, Alone}
use Rattle.direction_reader.specs.Firm.{AreFirmEvents}

-- a word with its label, its direction, the tick at its end and its length
abbrev pub heard_as : Direction → LtcWord → ℕ → ℕ → HeardWord
heard_as direction word tick length =
    record { label = word.fields.label; direction = direction; tick = tick; length = length }

-- the word that an event is, if it is one, with a witness or without
abbrev pub word_of : FirmEvent → Option HeardWord
word_of (Told (Word direction word tick length)) = Some (heard_as direction word tick length)
word_of (Told (Refused direction fault tick)) = None
word_of (Told (Lost interval tick)) = None
word_of (Alone direction word tick length) = Some (heard_as direction word tick length)

-- of an event that may be there
abbrev pub word_at : Option FirmEvent → Option HeardWord
word_at None = None
word_at (Some event) = word_of event

-- of two words the second joins the first: it begins where that one ends, has its direction, and counts on
abbrev pub joins : Option HeardWord → Option HeardWord → Bool
joins None second = false
joins (Some first) None = false
joins (Some first) (Some second) = (first.tick + second.length == second.tick) && is_next first 1 second

-- what becomes of an event between the one just before it and the one just behind it: a word without a witness is told
-- if the word that follows it on the tape is there and they join. All else stays as it is
abbrev pub between : Option FirmEvent → FirmEvent → Option FirmEvent → FirmEvent
between before (Told event) behind = Told event
between before (Alone Forward word tick length) behind =
    if joins (Some (heard_as Forward word tick length)) (word_at behind) then Told (Word Forward word tick length)
    else Alone Forward word tick length
between before (Alone Backward word tick length) behind =
    if joins (word_at before) (Some (heard_as Backward word tick length)) then Told (Word Backward word tick length)
    else Alone Backward word tick length

-- an event, and else another one
abbrev pub or_other : Option FirmEvent → Option FirmEvent → Option FirmEvent
or_other (Some event) other = Some event
or_other None other = other

-- the first of events
abbrev pub first_of : List FirmEvent → Option FirmEvent
first_of [] = None
first_of (event ∷ more) = Some event

-- the last of events
abbrev pub last_of : List FirmEvent → Option FirmEvent
last_of [] = None
last_of (event ∷ more) = or_other (last_of more) (Some event)

-- what becomes of events, each between its neighbours, if one stands before them, and one behind them
abbrev pub all_between : Option FirmEvent → List FirmEvent → Option FirmEvent → List FirmEvent
all_between before [] behind = []
all_between before (event ∷ more) behind =
    between before event (or_other (first_of more) behind) ∷ all_between (Some event) more behind

-- what becomes of all events of a list
abbrev pub consecutive : List FirmEvent → List FirmEvent
consecutive events = all_between None events None

-- the events of a list of intervals: those that need witnesses, each as it stands between its neighbours
abbrev pub AreConsecutiveEvents : System → Profile → List ℕ → List FirmEvent → Type 0
AreConsecutiveEvents system profile intervals events = (firm : List FirmEvent)
    × AreFirmEvents system profile intervals firm × (events ≡ consecutive firm)
