-- The latest cells of the stretch that is open.
use Rattle.std.specs.Prelude.{◌≡◌, ℕ, ◌-◌, List, [], ◌∷◌, ◌++◌, length, drop, slice_index, if◌then◌else◌, nat_lt}
use Rattle.tc_address.specs.declared.system.System.{System}
use Rattle.direction_reader.specs.declared.boundaries.TheConstants.{BOUNDARIES}
use Rattle.direction_reader.specs.declared.brought.Brought.{Brought}
use Rattle.direction_reader.specs.declared.brought.Brought.TheVariants.{Nothing, Candidate, Break}
use Rattle.direction_reader.specs.declared.event.Events.{Events}
use Rattle.direction_reader.specs.declared.latest_bits.LatestBits.{LatestBits}
use Rattle.direction_reader.specs.declared.latest_bits.LatestBits.TheVariants as latest
use Rattle.direction_reader.specs.declared.state.Step.{Step}
use Rattle.direction_reader.specs.declared.state.Step.TheVariants as step
use Rattle.direction_reader.specs.Candidate.{AreEventsOf}
use Rattle.direction_reader.specs.Events.{no_events}
use Rattle.direction_reader.specs.LatestBits.{EndsInCandidate}

-- the latest bits, and the ticks at the boundaries of their cells: one before each, and one at the end
pub record Cells : Type 0 where
  pub bits : LatestBits
  pub boundaries : List ℕ

-- a stretch that begins at a tick, with no cell yet
abbrev pub no_cells : ℕ → Cells
no_cells tick = record { bits = latest.Filling (record { bits = 0; count = 0 }); boundaries = tick ∷ [] }

-- one boundary more, and the oldest of 81 gone
abbrev pub with_boundary : List ℕ → ℕ → List ℕ
with_boundary boundaries tick =
    if nat_lt (length boundaries) BOUNDARIES then boundaries ++ tick ∷ [] else drop 1 boundaries ++ tick ∷ []

-- what a cell brings, by the bits that end with it: a candidate where they are a window with one, and else nothing
abbrev pub CellBrings : LatestBits → Brought → Type 0
CellBrings bits Nothing = ¬ EndsInCandidate bits
CellBrings bits Candidate = EndsInCandidate bits
CellBrings bits Break = ⊥

-- what a step of the tracker brings, by the bits after it
abbrev pub StepBrings : LatestBits → Step → Brought → Type 0
StepBrings bits step.Nothing brought = brought ≡ Nothing
StepBrings bits step.FirstZero brought = brought ≡ Nothing
StepBrings bits (step.ZeroBefore first) brought = brought ≡ Nothing
StepBrings bits (step.Cell bit) brought = CellBrings bits brought
StepBrings bits step.Break brought = brought ≡ Break

-- the events of the latest window, which ends at a tick: none before it is full, and then those of its bits, with the
-- length from its oldest boundary on
abbrev pub AreWindowEvents : System → LatestBits → List ℕ → ℕ → Events → Type 0
AreWindowEvents system (latest.Full bits) boundaries end events =
    AreEventsOf system bits end (end - slice_index boundaries 0) events
AreWindowEvents system (latest.Filling _) boundaries end events = events ≡ no_events
