-- The numbers in the events that an interval brings.
use Rattle.std.specs.Prelude.{◌≡◌, ℕ, ◌+◌, ◌*◌, ◌≤◌, IfSome}
use Rattle.direction_reader.specs.declared.event.Event.{Event}
use Rattle.direction_reader.specs.declared.event.Event.TheVariants.{Word, Refused, Lost}
use Rattle.direction_reader.specs.declared.event.Events.{Events}
use Rattle.limits.specs.declared.recording.TheConstants.{MAX_INTERVAL}

-- a cell lasts at most this many ticks
abbrev pub greatest_cell : ℕ
greatest_cell = 2 * MAX_INTERVAL

-- a word or a refused word that ends at a tick, a word with the length of 80 cells
abbrev pub IsWordAt : ℕ → Event → Type 0
IsWordAt end (Word direction word tick length) = (tick ≡ end) × (80 ≤ length) × (length ≤ 80 * greatest_cell)
IsWordAt end (Refused direction fault tick) = tick ≡ end
IsWordAt end (Lost interval tick) = ⊥

-- the events of a window that ends at a tick
pub record BringsAt (end : ℕ) (events : Events) : Type 0 where
  pub first : IfSome events.first (IsWordAt end)
  pub second : IfSome events.second (IsWordAt end)

-- an event of the latest of this many intervals, whose sum is a tick: a break stands at its place
abbrev pub IsLatest : ℕ → ℕ → Event → Type 0
IsLatest intervals sum (Word direction word tick length) = (tick ≡ sum) × (80 ≤ length) × (length ≤ 80 * greatest_cell)
IsLatest intervals sum (Refused direction fault tick) = tick ≡ sum
IsLatest intervals sum (Lost interval tick) = (interval + 1 ≡ intervals) × (tick ≡ sum)

-- what the latest of this many intervals brings
pub record Brings (intervals sum : ℕ) (events : Events) : Type 0 where
  pub first : IfSome events.first (IsLatest intervals sum)
  pub second : IfSome events.second (IsLatest intervals sum)
