-- What is known of the events of a list of intervals while more may follow, where each word needs a witness: all, but
-- of a word that is played backward, and behind which fewer than 16 cells of an open stretch have come.
use Rattle.std.specs.Prelude.{ℕ, ◌+◌, ◌-◌, ◌==◌, List, [], ◌∷◌, ◌++◌, length, take, drop, map, Bool, true, false}
use Rattle.std.specs.Prelude.{nat_lt, Option, Some, None, if◌then◌else◌}
use Rattle.std.specs.List.{flat_map, range_with_len}
use Rattle.biphase.specs.declared.cell.Cell.{Cell}
use Rattle.cell_tracker.specs.Stretch.{Stretch}
use Rattle.tc_address.specs.declared.direction.Direction.TheVariants.{Forward, Backward}
use Rattle.tc_address.specs.declared.system.System.{System}
use Rattle.direction_reader.specs.declared.event.Event.{Event}
use Rattle.direction_reader.specs.declared.event.Event.TheVariants.{Word, Refused, Lost}
use Rattle.direction_reader.specs.declared.firm_event.FirmEvent.{FirmEvent}
use Rattle.direction_reader.specs.declared.firm_event.FirmEvent.TheVariants.{Told}
use Rattle.direction_reader.specs.Events.{tick_of}
use Rattle.direction_reader.specs.Firm.{judged, candidate_at, firm_candidate_at, sync_in_time}
use Rattle.direction_reader.specs.Gathered.{begin_of}
use Rattle.direction_reader.specs.ListEvents.{bits_in, break_events}

-- an event of which all is known, or a word that waits for its witness
pub data Known : Type 0 where
  Sure : FirmEvent → Known
  Open : Event → Known

-- events of which all is known
abbrev pub all_sure : List FirmEvent → List Known
all_sure events = map (λ (event : FirmEvent). Sure event) events

-- a candidate, by whether it has its witness, where that is known
abbrev pub known_by : Option Bool → Event → Known
known_by (Some firm) event = Sure (judged firm event)
known_by None (Word direction word tick length) = Open (Word direction word tick length)
known_by None (Refused direction fault tick) = Sure (Told (Refused direction fault tick))
known_by None (Lost interval tick) = Sure (Told (Lost interval tick))

-- a candidate of cells so far: one that is played forward, as it is judged, or one that is played backward, and the
-- cells behind it
pub data Sight : Type 0 where
  Judged : FirmEvent → Sight
  Beside : Event → List Cell → Sight

-- whether the first 16 of the cells behind a word are its witness, or the stretch ends before them; not known yet where
-- it goes on
abbrev pub witness_in : Bool → List Cell → Option Bool
witness_in goes_on behind =
    if nat_lt (length behind) 16 then (if goes_on then None else Some true)
    else Some (bits_in (take 16 behind) == sync_in_time Backward)

-- what is known of it, in a stretch that goes on or not
abbrev pub known : Bool → Sight → Known
known goes_on (Judged event) = Sure event
known goes_on (Beside event behind) = known_by (witness_in goes_on behind) event

-- the candidates of the window of the 80 cells from place k on: the forward candidate comes first
unfoldable pub sights_at : System → ℕ → List Cell → ℕ → List Sight
sights_at system tick cells k =
    map (λ (event : FirmEvent). Judged event) (firm_candidate_at system tick cells k Forward)
    ++ map (λ (event : Event). Beside event (drop (k + 80) cells)) (candidate_at system tick cells k Backward)

-- those of this many windows from one place on
abbrev pub sights_from : System → ℕ → List Cell → ℕ → ℕ → List Sight
sights_from system tick cells place count = flat_map (sights_at system tick cells) (range_with_len place count)

-- those of all windows of cells that begin at a tick
abbrev pub sights_of : System → ℕ → List Cell → List Sight
sights_of system tick cells = sights_from system tick cells 0 (length cells - 79)

-- what is known of them
abbrev pub known_of_cells : Bool → System → ℕ → List Cell → List Known
known_of_cells goes_on system tick cells = map (known goes_on) (sights_of system tick cells)

-- a stretch goes on where it has no break
abbrev pub has_no_break : Option ℕ → Bool
has_no_break None = true
has_no_break (Some place) = false

-- the events of a stretch
abbrev pub known_of_stretch : System → List ℕ → Stretch → List Known
known_of_stretch system intervals stretch =
    known_of_cells (has_no_break stretch.broken_at) system (begin_of intervals stretch) stretch.cells
    ++ all_sure (map (λ event. Told event) (break_events intervals stretch.broken_at))

-- those of stretches
abbrev pub known_of : System → List ℕ → List Stretch → List Known
known_of system intervals stretches = flat_map (known_of_stretch system intervals) stretches

-- what is told of them: all that comes before a word that waits
abbrev pub told_of : List Known → List FirmEvent
told_of [] = []
told_of (Sure event ∷ more) = event ∷ told_of more
told_of (Open word ∷ more) = []

-- up to which tick: that of the word that waits, and else this one
abbrev pub told_to : ℕ → List Known → ℕ
told_to now [] = now
told_to now (Sure event ∷ more) = told_to now more
told_to now (Open word ∷ more) = tick_of word

-- as it is told where no cell follows: a word that waits is at the edge of its stretch
abbrev pub closed : Known → FirmEvent
closed (Sure event) = event
closed (Open word) = Told word
