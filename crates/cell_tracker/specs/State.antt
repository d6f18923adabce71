-- What the three states of the tracker keep.
use Rattle.std.specs.Prelude.{◌≡◌, ℕ, Option, Some}
use Rattle.biphase.specs.Latest.{Latest}
use Rattle.biphase.specs.declared.profile.Profile.{Profile}
use Rattle.biphase.specs.Tolerance.{reference_of, kept_by}

-- between stretches: the interval before, if there was one since the search began
pub record HuntingState : Type 0 where
  pub profile : Profile
  pub before : Option ℕ

-- at the end of a cell: what the tolerance keeps of it and of the cells before it
pub record AtCellState : Type 0 where
  pub profile : Profile
  pub latest : Latest

-- inside a one: what is kept of the cells before it, and its first half
pub record MidCellState : Type 0 where
  pub profile : Profile
  pub latest : Latest
  pub half : ℕ

-- a search that begins at x
abbrev pub search_from : Profile → ℕ → HuntingState
search_from profile x = record { profile = profile; before = Some x }

-- what AtCell holds of its state: the number that its profile compares with. The latest four lengths stand beside it
pub record AtCellHeld : Type 0 where
  pub profile : Profile
  pub reference : ℕ

-- what MidCell holds of its state
pub record MidCellHeld : Type 0 where
  pub profile : Profile
  pub reference : ℕ
  pub half : ℕ

-- the state, by what is held of it and the latest four lengths
abbrev pub at_cell_with : AtCellHeld → Latest → AtCellState
at_cell_with held four = record { profile = held.profile; latest = kept_by held.profile held.reference four }

-- the state inside a cell, with the latest cells that are kept beside it
abbrev pub mid_cell_with : MidCellHeld → Latest → MidCellState
mid_cell_with held four =
    record { profile = held.profile; latest = kept_by held.profile held.reference four; half = held.half }

-- what is held of a state
abbrev pub held_at_cell : Profile → Latest → AtCellHeld
held_at_cell profile latest = record { profile = profile; reference = reference_of profile latest }

-- what the state inside a cell holds itself, beside the latest cells
abbrev pub held_mid_cell : Profile → Latest → ℕ → MidCellHeld
held_mid_cell profile latest half = record { profile = profile; reference = reference_of profile latest; half = half }

-- AtCell and the four lengths beside it are this state
pub record IsAtCell (held : AtCellHeld) (four : Latest) (state : AtCellState) : Type 0 where
  pub held_is : held ≡ held_at_cell state.profile state.latest
  pub with_four : at_cell_with held four ≡ state

-- so are MidCell and they
pub record IsMidCell (held : MidCellHeld) (four : Latest) (state : MidCellState) : Type 0 where
  pub held_is : held ≡ held_mid_cell state.profile state.latest state.half
  pub with_four : mid_cell_with held four ≡ state
