-- What is kept to decide the cells of a sound stands for its steps so far, and for what has been given.
use Rattle.std.specs.Prelude.{◌≡◌, ℕ, ◌+◌, ◌-◌, ◌^◌, ◌%◌, ◌<◌, ◌≤◌, List, ◌∷◌, length, ◌++◌, Option, Some, None}
use Rattle.cell_path.specs.declared.cell.Step.{Step}
use Rattle.cell_path.specs.declared.pending.Pending.{Pending}
use Rattle.cell_path.specs.declared.placed.Decided.{Decided}
use Rattle.cell_path.specs.declared.placed.Placed.{Placed}
use Rattle.cell_path.specs.Decided.{end_behind, jumps, latest_of, AreDecided, AreDecidedInAll}
use Rattle.cell_path.specs.Spaced.{AreSpaced}
use Rattle.cell_path.specs.Pending.{StandsWith}
use Rattle.cell_path.specs.Paths.{PathsState}

-- the paths, the steps that wait for others, how many steps there were, where the decided cells end, those that wait,
-- and the last one given
pub record DecisionsState : Type 0 where
  pub paths : PathsState
  pub pending : Pending
  pub count : ℕ
  pub done : ℕ
  pub waiting : List Placed
  pub last : Option Placed

-- where the cell ended that was given last
abbrev pub last_end : Option Placed → ℕ
last_end None = 0
last_end (Some last) = last.end

-- after the latest decision nothing is left open that is older than 919 steps: the latest cell that was old enough
-- ended 895 steps before it or later, and what was decided ends there, or a quarter of a cell before
pub record AreDecisions (state : DecisionsState) : Type 0 where
  pub count_is : state.count ≡ state.paths.marks.count + state.count % 4
  pub few : state.count ≤ 2 ^ 40
  pub behind : state.done ≤ state.count
  pub near : 2_048 ≤ state.count → state.count - state.count % 1_024 ≤ state.done + 919
  pub done_is : state.done ≡ end_behind (last_end state.last) state.waiting
  pub spaced : AreSpaced 120 (last_end state.last) state.waiting
  pub recent : 0 < length state.waiting → state.count ≤ last_end state.last + 2_048

-- what was given and what waits is what is decided after these steps
pub record DecisionsStandFor (state : DecisionsState) (steps : List Step) (given : List Placed) : Type 0 where
  pub stands : StandsWith state.paths state.pending state.count steps
  pub count : state.count ≡ length steps
  pub decided : AreDecided steps (state.waiting ++ given)
  pub done : state.done ≡ end_behind 0 (state.waiting ++ given)
  pub last : state.last ≡ latest_of given

-- the sound has ended, and what was given and what waits is what is decided in all
pub record DecisionsEndFor (state : DecisionsState) (steps : List Step) (given : List Placed) : Type 0 where
  pub decided : AreDecidedInAll steps (state.waiting ++ given)
  pub last : state.last ≡ latest_of given

-- the cell that is given, and where it ends, if one is given
abbrev pub placed_of : Option Decided → Option Placed
placed_of None = None
placed_of (Some cell) = Some cell.placed

-- the next cell in the order of time is given, and none where all are given
abbrev pub Gives : DecisionsState → List Step → List Placed → Option Decided → Type 0
Gives new steps given None = AreDecided steps given × DecisionsStandFor new steps given
Gives new steps given (Some cell) =
    (cell.jumps ≡ jumps (latest_of given) cell.placed) × DecisionsStandFor new steps (cell.placed ∷ given)

-- the same at the end of the sound
abbrev pub GivesRest : DecisionsState → List Step → List Placed → Option Decided → Type 0
GivesRest new steps given None = AreDecidedInAll steps given × DecisionsEndFor new steps given
GivesRest new steps given (Some cell) =
    (cell.jumps ≡ jumps (latest_of given) cell.placed) × DecisionsEndFor new steps (cell.placed ∷ given)

-- the cell that is given has a place in the sound: behind the one before it, and not long ago
pub record IsNear (before after : DecisionsState) (cell : Decided) : Type 0 where
  pub place : cell.placed.cell.place < 45
  pub behind : last_end before.last + 2 ≤ cell.placed.end
  pub close : cell.placed.end ≤ last_end before.last + 120
  pub come : cell.placed.end ≤ after.count
  pub recent : after.count ≤ cell.placed.end + 2_048
  pub last : after.last ≡ Some cell.placed
