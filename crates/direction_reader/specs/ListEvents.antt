-- The events of a list of intervals: the candidates of all windows of its stretches, and its breaks. Nothing here is
-- kept from one interval to the next: all of it is said of the finished list.
use Rattle.std.specs.Prelude.{◌≡◌, ℕ, ◌+◌, ◌-◌, ◌*◌, List, [], ◌∷◌, ◌++◌, length, take, drop, sum, Option}
use Rattle.std.specs.Prelude.{Some, None}
use Rattle.std.specs.List.{flat_map, range_with_len}
use Rattle.biphase.specs.declared.cell.Cell.{Cell}
use Rattle.biphase.specs.declared.cell.Cell.TheVariants.{Zero, One}
use Rattle.biphase.specs.declared.profile.Profile.{Profile}
use Rattle.biphase.specs.Chain.{flat}
use Rattle.cell_tracker.specs.Stretch.{Stretch, AreStretchesFrom}
use Rattle.ltc_word.specs.Reversal.{reversed_bits}
use Rattle.tc_address.specs.declared.direction.Direction.TheVariants.{Forward, Backward}
use Rattle.tc_address.specs.declared.system.System.{System}
use Rattle.direction_reader.specs.declared.event.Event.{Event}
use Rattle.direction_reader.specs.declared.event.Event.TheVariants.{Lost}
use Rattle.direction_reader.specs.Candidate.{candidate_in}

-- the bits of cells as one number, the oldest in bit 0: a zero is a 0, and a one is a 1
abbrev pub bits_in : List Cell → ℕ
bits_in [] = 0
bits_in (Zero x ∷ cells) = 2 * bits_in cells
bits_in (One a b ∷ cells) = 1 + 2 * bits_in cells

-- the sum of the intervals of cells
abbrev pub duration : List Cell → ℕ
duration cells = sum (flat cells)

-- the events of a window of 80 bits, with the tick at its end and the sum of its intervals: it is a forward candidate
-- where it ends in the sync word, and a backward one where its bits in the other order of time do; the forward
-- candidate comes first
unfoldable pub events_of_window : System → ℕ → ℕ → ℕ → List Event
events_of_window system bits end length =
    candidate_in system Forward bits end length ++ candidate_in system Backward (reversed_bits bits) end length

-- of cells that begin at a tick, the events of the window of the 80 from place k on
abbrev pub events_at : System → ℕ → List Cell → ℕ → List Event
events_at system tick cells k = let window = take 80 (drop k cells) in
    events_of_window system (bits_in window) (tick + duration (take (k + 80) cells)) (duration window)

-- the events of cells that begin at a tick: those of all their windows, one window after another
abbrev pub events_of_cells : System → ℕ → List Cell → List Event
events_of_cells system tick cells = flat_map (events_at system tick cells) (range_with_len 0 (length cells - 79))

-- the end of a stretch, if it has one: the place of the interval at which it breaks, and the sum up to and with that
abbrev pub break_events : List ℕ → Option ℕ → List Event
break_events intervals None = []
break_events intervals (Some place) = Lost place (sum (take (place + 1) intervals)) ∷ []

-- the events of a stretch: those of its windows, and then its break
abbrev pub events_of_stretch : System → List ℕ → Stretch → List Event
events_of_stretch system intervals stretch =
    events_of_cells system (sum (take stretch.lock intervals)) stretch.cells ++ break_events intervals stretch.broken_at

-- the events of a list of intervals: those of its stretches, one stretch after another
abbrev pub AreEvents : System → Profile → List ℕ → List Event → Type 0
AreEvents system profile intervals events = (stretches : List Stretch)
    × AreStretchesFrom profile intervals 0 stretches
    × (events ≡ flat_map (events_of_stretch system intervals) stretches)
