-- The events of a list of intervals if each word needs a witness, by a reader that is set to be firm. A word
-- of linear time code has no check but its address, but it does not come alone: words follow one another, so on the
-- side of a word away from its own sync word is another one's. The rule is this project's own.
use Rattle.std.specs.Prelude.{◌≡◌, ℕ, ◌+◌, ◌-◌, ◌≤◌, ◌==◌, List, [], ◌∷◌, ◌++◌, length, take, drop, sum, map, Bool}
use Rattle.std.specs.Prelude.{◌||◌}
use Rattle.std.specs.Prelude.{nat_lt, if◌then◌else◌}
use Rattle.std.specs.List.{flat_map, range_with_len}
use Rattle.biphase.specs.declared.cell.Cell.{Cell}
use Rattle.biphase.specs.declared.profile.Profile.{Profile}
use Rattle.cell_tracker.specs.Stretch.{Stretch, AreStretchesFrom}
use Rattle.ltc_word.specs.declared.places.TheConstants as places
use Rattle.ltc_word.specs.Reversal.{reversed_bits}
use Rattle.tc_address.specs.declared.direction.Direction.{Direction}
use Rattle.tc_address.specs.declared.direction.Direction.TheVariants.{Forward, Backward}
use Rattle.tc_address.specs.declared.system.System.{System}
use Rattle.direction_reader.specs.declared.event.Event.{Event}
use Rattle.direction_reader.specs.declared.event.Event.TheVariants.{Word}
use Rattle.direction_reader.specs.declared.firm_event.FirmEvent.{FirmEvent}
use Rattle.direction_reader.specs.declared.firm_event.FirmEvent.TheVariants.{Told, Alone}
use Rattle.direction_reader.specs.Candidate.{candidate_in}
use Rattle.direction_reader.specs.Events.{tick_of}
use Rattle.direction_reader.specs.ListEvents.{bits_in, duration, break_events}

-- the sync word as it comes in time, the first bit in bit 0: of a word that is played forward, 0011111111111101, and of
-- one that is played backward, 1011111111111100
abbrev pub sync_in_time : Direction → ℕ
sync_in_time Forward = places.SYNC_PATTERN
sync_in_time Backward = 0x3ffd

-- of the cells of a stretch, the 80 from place k on, read in a direction, stand beside another word's sync word: on the
-- side away from their own, the next 16 cells are the sync word in the same direction too, or the stretch does not
-- reach that far. That side is before a word that is played forward and behind one that is played backward
abbrev pub is_firm : Direction → List Cell → ℕ → Bool
is_firm Forward cells k = nat_lt k 16 || (bits_in (take 16 (drop (k - 16) cells)) == sync_in_time Forward)
is_firm Backward cells k =
    nat_lt (length cells) (k + 96) || (bits_in (take 16 (drop (k + 80) cells)) == sync_in_time Backward)

-- what becomes of the event of a candidate: a word that is not firm is alone, and all else is told as it is
abbrev pub judged : Bool → Event → FirmEvent
judged firm (Word direction word tick length) =
    if firm then Told (Word direction word tick length) else Alone direction word tick length
judged firm event = Told event

-- the tick of what is told: where a window ends, or the interval at which a stretch breaks
abbrev pub told_tick : FirmEvent → ℕ
told_tick (Told event) = tick_of event
told_tick (Alone direction word tick length) = tick

-- ticks that do not fall, from a tick to another
abbrev pub DoNotFall : ℕ → List ℕ → ℕ → Type 0
DoNotFall first [] last = first ≤ last
DoNotFall first (tick ∷ more) last = (first ≤ tick) × DoNotFall tick more last

-- of cells that begin at a tick, the candidate that the 80 from place k on are in a direction
abbrev pub candidate_at : System → ℕ → List Cell → ℕ → Direction → List Event
candidate_at system tick cells k Forward = let window = take 80 (drop k cells) in
    candidate_in system Forward (bits_in window) (tick + duration (take (k + 80) cells)) (duration window)
candidate_at system tick cells k Backward = let window = take 80 (drop k cells) in
    candidate_in system Backward (reversed_bits (bits_in window)) (tick + duration (take (k + 80) cells))
    (duration window)

-- and what becomes of it
abbrev pub firm_candidate_at : System → ℕ → List Cell → ℕ → Direction → List FirmEvent
firm_candidate_at system tick cells k direction =
    map (judged (is_firm direction cells k)) (candidate_at system tick cells k direction)

-- the events of the window of the 80 from place k on: the forward candidate comes first
unfoldable pub firm_events_at : System → ℕ → List Cell → ℕ → List FirmEvent
firm_events_at system tick cells k =
    firm_candidate_at system tick cells k Forward ++ firm_candidate_at system tick cells k Backward

-- the events of cells that begin at a tick and are all that their stretch has: those of all their windows
abbrev pub firm_events_of_cells : System → ℕ → List Cell → List FirmEvent
firm_events_of_cells system tick cells =
    flat_map (firm_events_at system tick cells) (range_with_len 0 (length cells - 79))

-- the events of a stretch: those of its windows, and then its break
abbrev pub firm_events_of_stretch : System → List ℕ → Stretch → List FirmEvent
firm_events_of_stretch system intervals stretch =
    firm_events_of_cells system (sum (take stretch.lock intervals)) stretch.cells
    ++ map (λ event. Told event) (break_events intervals stretch.broken_at)

-- the events of a list of intervals: those of its stretches, one stretch after another
abbrev pub AreFirmEvents : System → Profile → List ℕ → List FirmEvent → Type 0
AreFirmEvents system profile intervals events = (stretches : List Stretch)
    × AreStretchesFrom profile intervals 0 stretches
    × (events ≡ flat_map (firm_events_of_stretch system intervals) stretches)
