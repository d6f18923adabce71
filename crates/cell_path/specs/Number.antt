-- The numbers that are kept of a sound: the best scores of paths that end at a step, and of those behind which a cell
-- begins there.
use Rattle.std.specs.Prelude.{◌≡◌, ℕ, ◌<◌, ℤ, ◌-ℤ◌, ◌<ℤ◌, ◌⊎◌, List, [], ◌∷◌, drop}
use Rattle.cell_path.specs.declared.cell.Bit.{Bit}
use Rattle.cell_path.specs.declared.cell.Cell.{Cell}
use Rattle.cell_path.specs.declared.cell.Sign.{Sign}
use Rattle.cell_path.specs.declared.cell.Step.{Step}
use Rattle.cell_path.specs.declared.cell.Way.{Way}
use Rattle.cell_path.specs.Best.{rank_of_way, IsBest, IsBestOfAll, StandsFirst, EndsIn}
use Rattle.cell_path.specs.Path.{cost, score, Follows, IsPath}

-- the score of what stands before a cell that begins this many steps ago, less what it costs to begin it
abbrev pub score_before : List ℕ → List Step → ℕ → ℕ → Way → List Cell → ℤ
score_before lengths steps ago place way before =
    score lengths (drop ago steps) before -ℤ cost lengths steps ago place way before

-- of two beginnings with these scores the first wins
abbrev pub WinsBy : ℤ → ℕ → List Cell → ℤ → ℕ → List Cell → Type 0
WinsBy score rank before less other others =
    (less <ℤ score) ⊎ ((less ≡ score) × ((rank < other) ⊎ ((rank ≡ other) × StandsFirst before others)))

-- a cell with a length and the sign before it may begin this many steps ago, in this way behind these cells
pub record Begins (lengths : List ℕ) (steps : List Step) (ago place : ℕ) (sign : Sign) (way : Way) (before : List Cell)
    : Type 0 where
  pub follows : Follows way place sign before
  pub is_path : IsPath lengths (drop ago steps) before

-- the number is the score of the best beginning, and this is its way
pub record IsBeginning (lengths : List ℕ) (steps : List Step) (ago place : ℕ) (sign : Sign) (number : ℤ) (way : Way)
    : Type 0 where
  pub before : List Cell
  pub begins : Begins lengths steps ago place sign way before
  pub number_is : number ≡ score_before lengths steps ago place way before
  pub wins : (other : Way) (others : List Cell) → Begins lengths steps ago place sign other others
      → WinsBy number (rank_of_way way) before (score_before lengths steps ago place other others) (rank_of_way other)
      others

-- the path's latest cell is of this bit
abbrev pub HasBit : Bit → List Cell → Type 0
HasBit bit [] = ⊥
HasBit bit (cell ∷ before) = cell.bit ≡ bit

-- the number is the score of the best path that ends so, and this is its latest bit
pub record IsEnd (lengths : List ℕ) (steps : List Step) (place : ℕ) (sign : Sign) (number : ℤ) (bit : Bit)
    : Type 0 where
  pub path : List Cell
  pub is_best : IsBest lengths steps place sign path
  pub number_is : number ≡ score lengths steps path
  pub bit_is : HasBit bit path

-- the number is the score of the best path of all, and it ends so
pub record IsBestEnd (lengths : List ℕ) (steps : List Step) (place : ℕ) (sign : Sign) (number : ℤ) : Type 0 where
  pub path : List Cell
  pub is_best : IsBestOfAll lengths steps path
  pub ends : EndsIn place sign path
  pub number_is : number ≡ score lengths steps path
