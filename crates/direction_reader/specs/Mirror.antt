-- The same tape from its other end: what a recording and its intervals in the other order of time have in common.
use Rattle.std.specs.Prelude.{◌≡◌, ℕ, ◌+◌, ◌<◌, ◌≤◌, List, ◌++◌, length, reverse, take, drop, sum, All}
use Rattle.std.specs.List.{AllZip}
use Rattle.biphase.specs.declared.cell.Cell.{Cell}
use Rattle.biphase.specs.declared.profile.Profile.{Profile}
use Rattle.biphase.specs.Chain.{flat, Begins}
use Rattle.biphase.specs.Mirror.{mirrored}
use Rattle.cell_tracker.specs.ChainPiece.{IsPiece, cells_from}
use Rattle.cell_tracker.specs.Lock.{IsLock}
use Rattle.tc_address.specs.declared.direction.Direction.{Direction}
use Rattle.tc_address.specs.declared.direction.Direction.TheVariants.{Forward, Backward}
use Rattle.tc_address.specs.declared.system.System.{System}
use Rattle.direction_reader.specs.declared.event.Event.{Event}
use Rattle.direction_reader.specs.declared.event.Event.TheVariants.{Word, Refused}
use Rattle.direction_reader.specs.Events.{tick_of}
use Rattle.direction_reader.specs.ListEvents.{duration, events_of_cells}

-- the opposite direction
abbrev pub turned : Direction → Direction
turned Forward = Backward
turned Backward = Forward

-- of cells that begin at a tick, a window that ends at the tick `end` has this length: the sum of its intervals
abbrev pub IsWindowOf : ℕ → List Cell → ℕ → ℕ → Type 0
IsWindowOf tick cells end length_of_window = (k : ℕ) × (k + 80 ≤ length cells)
    × (end ≡ tick + duration (take (k + 80) cells)) × (length_of_window ≡ duration (take 80 (drop k cells)))

-- the one event, of a window of cells that begin at a tick, is the other, met from the other end: the same word or
-- fault in the opposite direction, at the tick of its other end. That tick and the event's own make up the sum of the
-- intervals and the length of the window
abbrev pub IsMirrorOf : ℕ → ℕ → List Cell → Event → Event → Type 0
IsMirrorOf total begin cells (Word direction word tick length) (Word other same there n) =
    (other ≡ turned direction) × (same ≡ word) × IsWindowOf begin cells tick length
    × (there + tick ≡ total + length) × (n ≡ length)
IsMirrorOf total begin cells (Refused direction fault tick) (Refused other same there) =
    (other ≡ turned direction) × (same ≡ fault)
    × ((length : ℕ) × IsWindowOf begin cells tick length × (there + tick ≡ total + length))
IsMirrorOf total begin cells event other = ⊥

-- the events begin with those of cells that begin at a tick, and further ones come when these have ended
abbrev pub TellFirst : System → ℕ → List Cell → List Event → Type 0
TellFirst system tick cells events = (more : List Event) × (events ≡ events_of_cells system tick cells ++ more)
    × All (λ event. tick + duration cells < tick_of event) more

-- the cells stand from place `first` of the intervals on, and the others from place `last` on in the other order of
-- time. The cells `between` these places begin the cells, and in the other order of time they begin the others. So the
-- events of both begin with those of these cells, and from the last one to the first one they are the same words, good
-- or refused, each met from its other end
pub record TellMirrored (system : System) (intervals : List ℕ) (first last : ℕ) (cells others : List Cell)
    (events mirrored_events : List Event) : Type 0 where
  pub between : List Cell
  pub begin : Begins between cells
  pub others_begin : Begins (mirrored between) others
  pub many : first + length (flat between) + last ≡ length intervals
  pub told : TellFirst system (sum (take first intervals)) between events
  pub told_mirrored : TellFirst system (sum (take last (reverse intervals))) (mirrored between) mirrored_events
  pub same : AllZip (IsMirrorOf (sum intervals) (sum (take first intervals)) between)
      (events_of_cells system (sum (take first intervals)) between)
      (reverse (events_of_cells system (sum (take last (reverse intervals))) (mirrored between)))

-- the events of a recording and of its mirror, both within the tolerance, are so between the greater intervals of the
-- first and of the last unequal pair
abbrev pub MirrorsTheTape : System → Profile → List ℕ → List Event → List Event → Type 0
MirrorsTheTape system profile intervals events mirrored_events = (tape other : List Cell) (cut place first last : ℕ)
    → IsPiece profile intervals tape cut → IsPiece profile (reverse intervals) other place
    → IsLock profile intervals 0 first → IsLock profile (reverse intervals) 0 last
    → TellMirrored system intervals first last (cells_from tape cut intervals first)
    (cells_from other place (reverse intervals) last) events mirrored_events
