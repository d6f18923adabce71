-- Trying one after another: the best so far, of the ends, of the ways to begin, and of the latest steps.
use Rattle.std.specs.Prelude.{◌≡◌, ℕ, ◌+◌, ◌*◌, ◌<◌, ℤ, List, [], ◌∷◌, drop}
use Rattle.cell_path.specs.declared.cell.Cell.{Cell}
use Rattle.cell_path.specs.declared.cell.Sign.{Sign}
use Rattle.cell_path.specs.declared.cell.Step.{Step}
use Rattle.cell_path.specs.declared.cell.Way.{Way}
use Rattle.cell_path.specs.declared.lengths.TheConstants.{LENGTHS}
use Rattle.cell_path.specs.Best.{rank_of_sign, rank_of_way, EndsIn, IsBestOfAll, Wins}
use Rattle.cell_path.specs.Number.{score_before, Begins, WinsBy}
use Rattle.cell_path.specs.Path.{score, IsPath}
use Rattle.cell_path.specs.Unfinished.{lack, LacksLess}

-- the number of an end, in the order in which ends are tried
abbrev pub end_number : ℕ → Sign → ℕ
end_number place sign = 2 * place + rank_of_sign sign

-- the path has one of the first `most` ends
abbrev pub EndsBelow : ℕ → List Cell → Type 0
EndsBelow most [] = ⊥
EndsBelow most (cell ∷ before) = end_number cell.place cell.sign < most

-- the best of those that have one of the first `most` ends
pub record IsBestBelow (lengths : List ℕ) (steps : List Step) (most place : ℕ) (sign : Sign) (number : ℤ) : Type 0 where
  pub path : List Cell
  pub is_path : IsPath lengths steps path
  pub ends : EndsIn place sign path
  pub below : end_number place sign < most
  pub number_is : number ≡ score lengths steps path
  pub wins : (other : List Cell) → IsPath lengths steps other → EndsBelow most other
      → Wins (score lengths steps path) path (score lengths steps other) other

-- the best of the first `most` ways to begin at the latest step
pub record IsBestBefore (lengths : List ℕ) (steps : List Step) (most place : ℕ) (sign : Sign) (number : ℤ) (way : Way)
    : Type 0 where
  pub before : List Cell
  pub begins : Begins lengths steps 0 place sign way before
  pub low : rank_of_way way < most
  pub number_is : number ≡ score_before lengths steps 0 place way before
  pub wins : (other : Way) (others : List Cell) → rank_of_way other < most
      → Begins lengths steps 0 place sign other others
      → WinsBy number (rank_of_way way) before (score_before lengths steps 0 place other others) (rank_of_way other)
      others

-- the best of one way
pub record IsBestOfWay (lengths : List ℕ) (steps : List Step) (place : ℕ) (sign : Sign) (way : Way) (number : ℤ)
    : Type 0 where
  pub before : List Cell
  pub begins : Begins lengths steps 0 place sign way before
  pub number_is : number ≡ score_before lengths steps 0 place way before
  pub wins : (others : List Cell) → Begins lengths steps 0 place sign way others
      → Wins number before (score_before lengths steps 0 place way others) others

-- of the best paths to the latest `most` steps that to the step so long ago lacks least
abbrev pub LacksLeast : List Step → ℕ → ℕ → Type 0
LacksLeast steps most ago = (other : ℕ) (path others : List Cell) → other < most
    → IsBestOfAll LENGTHS (drop ago steps) path → IsBestOfAll LENGTHS (drop other steps) others
    → LacksLess (lack LENGTHS (drop ago steps) path) ago (lack LENGTHS (drop other steps) others) other
