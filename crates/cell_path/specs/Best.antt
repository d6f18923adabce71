-- The best path: no other that ends as it does has a greater score, and of equal ones it comes first.
use Rattle.std.specs.Prelude.{◌≡◌, ℕ, ◌+◌, ◌*◌, ◌<◌, ℤ, ◌<ℤ◌, ◌⊎◌, List, [], ◌∷◌}
use Rattle.cell_path.specs.declared.cell.Bit.{Bit}
use Rattle.cell_path.specs.declared.cell.Bit.TheVariants.{Zero, One}
use Rattle.cell_path.specs.declared.cell.Cell.{Cell}
use Rattle.cell_path.specs.declared.cell.Sign.{Sign}
use Rattle.cell_path.specs.declared.cell.Sign.TheVariants.{Plus, Minus}
use Rattle.cell_path.specs.declared.cell.Step.{Step}
use Rattle.cell_path.specs.declared.cell.Way.{Way}
use Rattle.cell_path.specs.declared.cell.Way.TheVariants.{Same, Shorter, Longer, Jump}
use Rattle.cell_path.specs.Path.{score, IsPath}

-- of equal paths, a plus comes before a minus
abbrev pub rank_of_sign : Sign → ℕ
rank_of_sign Plus = 0
rank_of_sign Minus = 1

-- then a zero before a one
abbrev pub rank_of_bit : Bit → ℕ
rank_of_bit Zero = 0
rank_of_bit One = 1

-- then a cell as long as the one before it, one behind a shorter, one behind a longer, and a jump
abbrev pub rank_of_way : Way → ℕ
rank_of_way Same = 0
rank_of_way Shorter = 1
rank_of_way Longer = 2
rank_of_way Jump = 3

-- of two cells the first is the one with the shorter length, then that which ends with plus, then the zero, then by the
-- order of the ways
abbrev pub rank : Cell → ℕ
rank cell = 16 * cell.place + 8 * rank_of_sign cell.sign + 4 * rank_of_bit cell.bit + rank_of_way cell.way

-- of two paths the one stands first that has the first cell where they part, from the latest on
abbrev pub StandsFirst : List Cell → List Cell → Type 0
StandsFirst [] others = Unit {0}
StandsFirst (cell ∷ before) [] = ⊥
StandsFirst (cell ∷ before) (other ∷ others) =
    (rank cell < rank other) ⊎ ((rank cell ≡ rank other) × StandsFirst before others)

-- a path with the first score wins over one with the second
abbrev pub Wins : ℤ → List Cell → ℤ → List Cell → Type 0
Wins score path less other = (less <ℤ score) ⊎ ((less ≡ score) × StandsFirst path other)

-- the path ends with a cell whose length stands in this place, and with this sign
abbrev pub EndsIn : ℕ → Sign → List Cell → Type 0
EndsIn place sign [] = ⊥
EndsIn place sign (cell ∷ before) = (cell.place ≡ place) × (cell.sign ≡ sign)

-- of all paths through the steps that end so, it wins
pub record IsBest (lengths : List ℕ) (steps : List Step) (place : ℕ) (sign : Sign) (path : List Cell) : Type 0 where
  pub is_path : IsPath lengths steps path
  pub ends : EndsIn place sign path
  pub wins : (other : List Cell) → IsPath lengths steps other → EndsIn place sign other
      → Wins (score lengths steps path) path (score lengths steps other) other

-- of all paths through the steps, it wins
pub record IsBestOfAll (lengths : List ℕ) (steps : List Step) (path : List Cell) : Type 0 where
  pub is_path : IsPath lengths steps path
  pub wins : (other : List Cell) → IsPath lengths steps other
      → Wins (score lengths steps path) path (score lengths steps other) other
