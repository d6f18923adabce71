-- What is given of a list of intervals while more may follow, and up to which tick: all but a word that is played
-- backward and waits for its witness, and what comes behind it.
use Rattle.std.specs.Prelude.{◌≡◌, ℕ, ◌+◌, ◌<◌, ◌≤◌, List, [], ◌∷◌, ◌++◌, All, length, sum, take, true}
use Rattle.biphase.specs.declared.cell.Cell.{Cell}
use Rattle.biphase.specs.declared.profile.Profile.{Profile}
use Rattle.cell_tracker.specs.Stretch.{Stretch, AreStretchesFrom}
use Rattle.tc_address.specs.declared.direction.Direction.TheVariants.{Backward}
use Rattle.tc_address.specs.declared.system.System.{System}
use Rattle.direction_reader.specs.declared.event.Event.{Event}
use Rattle.direction_reader.specs.declared.firm_event.FirmEvent.{FirmEvent}
use Rattle.direction_reader.specs.Events.{is_word}
use Rattle.direction_reader.specs.Firm.{candidate_at, told_tick}
use Rattle.direction_reader.specs.FirmKnown.{known_of, told_of, told_to}
use Rattle.direction_reader.specs.ListEvents.{duration}

-- the window of 80 cells from place k on ends at a tick, where the cells begin at a tick
abbrev pub end_of_window : ℕ → List Cell → ℕ → ℕ
end_of_window tick cells k = tick + duration (take (k + 80) cells)

-- of cells that begin at a tick, the window from place k on is a word that is played backward, and fewer than 16 cells
-- stand behind it
pub record IsWaiting (system : System) (tick : ℕ) (cells : List Cell) (k : ℕ) : Type 0 where
  pub within : k + 80 ≤ length cells
  pub young : length cells < k + 96
  pub word : Event
  pub there : candidate_at system tick cells k Backward ≡ word ∷ []
  pub is : is_word word ≡ true

-- what is told of a list of intervals while more may follow, and up to which tick: all that is known of the events of
-- its stretches, up to the sum of the intervals, and where a word waits, all that comes before it, up to its tick
abbrev pub AreTold : System → Profile → List ℕ → List FirmEvent → ℕ → Type 0
AreTold system profile intervals told until = (stretches : List Stretch)
    × AreStretchesFrom profile intervals 0 stretches
    × (told ≡ told_of (known_of system intervals stretches))
    × (until ≡ told_to (sum intervals) (known_of system intervals stretches))

-- these events come first among others, of which all that follow end at the tick `until` or later, up to the tick `now`
pub record ComesFirst (told : List FirmEvent) (until : ℕ) (events : List FirmEvent) (now : ℕ) : Type 0 where
  pub rest : List FirmEvent
  pub are : events ≡ told ++ rest
  pub later : All (λ event. until ≤ told_tick event) rest
  pub before : until ≤ now
