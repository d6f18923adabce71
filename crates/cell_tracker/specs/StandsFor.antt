-- Which lists of intervals the tracker's states stand for, each list with its stretches.
use Rattle.std.specs.Prelude.{◌≡◌, ℕ, ◌+◌, ◌-◌, List, [], ◌∷◌, ◌++◌, length, slice_get, Option, Some, None, All}
use Rattle.biphase.specs.Chain.{kept_of}
use Rattle.biphase.specs.Latest.{Latest}
use Rattle.biphase.specs.declared.cell.Cell.{Cell}
use Rattle.cell_tracker.specs.declared.hunting.FromHunting.{FromHunting}
use Rattle.cell_tracker.specs.declared.hunting.FromHunting.TheVariants.{Hunt, StartAt, StartMid, StartBroken}
use Rattle.cell_tracker.specs.declared.at_cell.FromAtCell.{FromAtCell}
use Rattle.cell_tracker.specs.declared.at_cell.FromAtCell.TheVariants.{Half}
use Rattle.cell_tracker.specs.declared.mid_cell.FromMidCell.{FromMidCell}
use Rattle.cell_tracker.specs.State.{HuntingState, AtCellState, MidCellState, at_cell_with, mid_cell_with}
use Rattle.cell_tracker.specs.Stretch.{Stretch, IsBroken, AreStretches, end_of, begun, with_cell, with_break}

-- the last interval of a list, if it has any
abbrev pub last_of : List ℕ → Option ℕ
last_of intervals = slice_get intervals (length intervals - 1)

-- no stretch is open, and the state keeps the last interval
pub record HuntingStandsFor (state : HuntingState) (intervals : List ℕ) (stretches : List Stretch) : Type 0 where
  pub stretches_are : AreStretches state.profile intervals stretches
  pub all_broken : All IsBroken stretches
  pub before : state.before ≡ last_of intervals

-- the last stretch is open and ends with the list, and the state keeps what the tolerance keeps of its cells
pub record AtCellStandsFor (state : AtCellState) (intervals : List ℕ) (earlier : List Stretch) (stretch : Stretch) :
    Type 0 where
  pub stretches_are : AreStretches state.profile intervals (earlier ++ stretch ∷ [])
  pub open_yet : stretch.broken_at ≡ None
  pub ends : end_of stretch ≡ length intervals
  pub kept : kept_of state.profile stretch.cells ≡ state.latest

-- the last stretch is open and ends one interval before the list, which is the waiting half
pub record MidCellStandsFor (state : MidCellState) (intervals : List ℕ) (earlier : List Stretch) (stretch : Stretch) :
    Type 0 where
  pub stretches_are : AreStretches state.profile intervals (earlier ++ stretch ∷ [])
  pub open_yet : stretch.broken_at ≡ None
  pub ends : end_of stretch + 1 ≡ length intervals
  pub kept : kept_of state.profile stretch.cells ≡ state.latest
  pub half : last_of intervals ≡ Some state.half

-- what Hunting answers to an interval, with the four lengths after it, fits the list with the interval at its end: the
-- search goes on, or a stretch begins
abbrev pub StandsAfterHunting : FromHunting → Latest → ℕ → List ℕ → List Stretch → Type 0
StandsAfterHunting (Hunt next) four x intervals stretches = HuntingStandsFor next (intervals ++ x ∷ []) stretches
StandsAfterHunting (StartAt next) four x intervals stretches =
    AtCellStandsFor (at_cell_with next four) (intervals ++ x ∷ []) stretches (begun (length intervals) x)
StandsAfterHunting (StartMid next first) four x intervals stretches =
    MidCellStandsFor (mid_cell_with next four) (intervals ++ x ∷ []) stretches (begun (length intervals - 1) first)
StandsAfterHunting (StartBroken next first) four x intervals stretches =
    HuntingStandsFor next (intervals ++ x ∷ [])
    (stretches ++ with_break (length intervals) (begun (length intervals - 1) first) ∷ [])

-- so does what AtCell answers: the stretch gains a zero, waits, or breaks at the interval
abbrev pub StandsAfterAtCell : FromAtCell → Latest → ℕ → List ℕ → List Stretch → Stretch → Type 0
StandsAfterAtCell (FromAtCell.Zero next) four x intervals earlier stretch =
    AtCellStandsFor (at_cell_with next four) (intervals ++ x ∷ []) earlier (with_cell (Cell.Zero x) stretch)
StandsAfterAtCell (Half next) four x intervals earlier stretch =
    MidCellStandsFor (mid_cell_with next four) (intervals ++ x ∷ []) earlier stretch
StandsAfterAtCell (FromAtCell.Broken next) four x intervals earlier stretch =
    HuntingStandsFor next (intervals ++ x ∷ []) (earlier ++ with_break (length intervals) stretch ∷ [])

-- and what MidCell answers: the stretch gains a one, or breaks at the interval
abbrev pub StandsAfterMidCell : FromMidCell → Latest → ℕ → List ℕ → List Stretch → Stretch → Type 0
StandsAfterMidCell (FromMidCell.One next first second) four x intervals earlier stretch =
    AtCellStandsFor (at_cell_with next four) (intervals ++ x ∷ []) earlier (with_cell (Cell.One first second) stretch)
StandsAfterMidCell (FromMidCell.Broken next) four x intervals earlier stretch =
    HuntingStandsFor next (intervals ++ x ∷ []) (earlier ++ with_break (length intervals) stretch ∷ [])
