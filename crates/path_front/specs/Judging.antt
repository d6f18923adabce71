-- The cells of a sound on their way through the gate. Lists begin with the latest, but for those ahead of the gate.
use Rattle.std.specs.Prelude.{◌≡◌, ℕ, ◌+◌, ◌<◌, ◌≤◌, ℤ, List, [], ◌∷◌, ◌++◌, length, reverse, Bool, true, false}
use Rattle.cell_path.specs.declared.placed.Placed.{Placed}
use Rattle.cell_path.specs.Decided.{AreDecidedInAll}
use Rattle.path_front.specs.declared.gate.Judged.{Judged}
use Rattle.path_front.specs.declared.gate.TheConstants.{NEIGHBOURS}
use Rattle.path_front.specs.declared.judging.Phase.{Phase}
use Rattle.path_front.specs.declared.judging.Phase.TheVariants.{Sound, Rest, Drain}
use Rattle.path_front.specs.declared.judging.Taken.{Taken}
use Rattle.path_front.specs.declared.judging.Taken.TheVariants.{Judges, Waits, Nothing}
use Rattle.path_front.specs.declared.measured.Measured.{Measured}
use Rattle.path_front.specs.Cells.{cells_left, measured_cells, sounds_in, CellsEndFor, CellsState, CellsStandFor}
use Rattle.path_front.specs.Cells.{IsIdle}
use Rattle.path_front.specs.Gate.{breaks, ear_of, GateState, GateStandsFor}
use Rattle.path_front.specs.Measured.{IsMeasured}
use Rattle.path_front.specs.Steps.{path_steps}

-- it holds whatever cells come, as long as some may
abbrev pub ForMore : Phase → (List Measured → Type 0) → Type 0
ForMore Sound holds = (more : List Measured) → holds more
ForMore Rest holds = (more : List Measured) → holds more
ForMore Drain holds = holds []

-- what is known of the cells that were given
abbrev pub CellsIn : Phase → CellsState → List ℤ → List Placed → Type 0
CellsIn Sound cells samples given = CellsStandFor cells samples given
CellsIn Rest cells samples given = CellsEndFor cells samples given
CellsIn Drain cells samples given = AreDecidedInAll (path_steps (sounds_in cells samples)) given

-- all cells of a sound that has ended have been given
abbrev pub is_drain : Phase → Bool
is_drain Sound = false
is_drain Rest = false
is_drain Drain = true

-- where no cell is left, all of a sound that has ended have been given
abbrev pub closed : Phase → Phase
closed Sound = Sound
closed Rest = Drain
closed Drain = Drain

-- the cells, the gate, and the phase of the sound
pub record JudgingState : Type 0 where
  pub cells : CellsState
  pub gate : GateState
  pub phase : Phase

-- the gate has room for one cell more
pub record AreJudging (state : JudgingState) : Type 0 where
  pub room : length state.gate.ahead ≤ 8

-- in the order of time, the cells that were judged and those ahead are those that were given
pub record JudgingStandFor (state : JudgingState) (samples : List ℤ) (judged : List Measured) : Type 0 where
  pub given : List Placed
  pub cells : CellsIn state.phase state.cells samples given
  pub gate : GateStandsFor state.gate judged
  pub ear : state.gate.ear ≡ ear_of state.cells.steps.grid state.cells.steps.hold.least
  pub order : reverse judged ++ state.gate.ahead ≡ reverse (measured_cells (sounds_in state.cells samples) given)
  pub few : length state.gate.ahead ≤ NEIGHBOURS
  -- until all have been given, eight wait behind those that were judged
  pub eight : is_drain state.phase ≡ false → 0 < length judged → length state.gate.ahead ≡ NEIGHBOURS

-- a bound of the cells that are left to be judged
abbrev pub judging_left : JudgingState → ℕ
judging_left state = cells_left state.cells + length state.gate.ahead

-- some cells came behind those ahead, and these in front of them went
pub record Moves (old new : JudgingState) (gone : List Measured) : Type 0 where
  pub came : List Measured
  pub moved : old.gate.ahead ++ came ≡ gone ++ new.gate.ahead
  pub drained : old.phase ≡ Drain → came ≡ []
  pub stays : new.phase ≡ Sound → old.phase ≡ Sound
  pub goes : old.phase ≡ Sound → new.phase ≡ Sound
  pub keeps : old.phase ≡ Drain → new.phase ≡ Drain

-- in this phase a cell is judged so, behind those that were and before those ahead
abbrev pub IsJudgedIn : Phase → GateState → List Measured → Judged → Type 0
IsJudgedIn phase gate judged answer =
    ForMore phase (λ more. answer.breaks ≡ breaks gate.ear judged answer.cell (gate.ahead ++ more))

-- the next cell is judged
pub record GivesJudged (old new : JudgingState) (answer : Judged) : Type 0 where
  pub measured : IsMeasured answer.cell
  pub less : judging_left new < judging_left old
  pub moves : Moves old new (answer.cell ∷ [])
  pub judges : (samples : List ℤ) (judged : List Measured) → JudgingStandFor old samples judged
      → IsJudgedIn new.phase new.gate judged answer
  pub stands : (samples : List ℤ) (judged : List Measured) → JudgingStandFor old samples judged
      → JudgingStandFor new samples (answer.cell ∷ judged)

-- none is judged
pub record GivesNone (old new : JudgingState) : Type 0 where
  pub most : judging_left new ≤ judging_left old
  pub moves : Moves old new []
  pub stands : (samples : List ℤ) (judged : List Measured) → JudgingStandFor old samples judged
      → JudgingStandFor new samples judged

-- nothing is left until more samples come, or at all
abbrev pub IsSettled : Phase → JudgingState → Type 0
IsSettled Sound state = IsIdle state.cells
IsSettled Rest state = ⊥
IsSettled Drain state = state.gate.ahead ≡ []

-- what one more cell brings
abbrev pub Takes : JudgingState → JudgingState → Taken → Type 0
Takes old new (Judges answer) = GivesJudged old new answer
Takes old new Waits = GivesNone old new × (judging_left new < judging_left old)
Takes old new Nothing = GivesNone old new × (new.phase ≡ Sound → IsIdle new.cells)
    × (new.phase ≡ Rest → ⊥)
