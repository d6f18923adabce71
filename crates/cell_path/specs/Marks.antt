-- What is kept of each step to follow a best path back from it.
use Rattle.std.specs.Prelude.{ℕ, zero, suc, ◌/◌, ◌%◌, ◌<◌, ℤ, List, get_or}
use Rattle.cell_path.specs.declared.cell.Bit.{Bit}
use Rattle.cell_path.specs.declared.cell.Bit.TheVariants.{Zero, One}
use Rattle.cell_path.specs.declared.cell.Sign.{Sign}
use Rattle.cell_path.specs.declared.cell.Sign.TheVariants.{Plus, Minus}
use Rattle.cell_path.specs.declared.cell.Step.{Step}
use Rattle.cell_path.specs.declared.cell.Way.{Way}
use Rattle.cell_path.specs.declared.cell.Way.TheVariants.{Same, Shorter, Longer, Jump}
use Rattle.cell_path.specs.declared.lengths.TheConstants.{LENGTHS}
use Rattle.cell_path.specs.declared.mark.StepMarks.{StepMarks}
use Rattle.cell_path.specs.Number.{IsBeginning, IsBestEnd, IsEnd}

-- the bit of a number in its place of a mark
abbrev pub bit_from : ℕ → Bit
bit_from zero = Zero
bit_from (suc n) = One

-- the way of a number in its place of a mark
abbrev pub way_from : ℕ → Way
way_from zero = Same
way_from (suc zero) = Shorter
way_from (suc (suc zero)) = Longer
way_from (suc (suc (suc n))) = Jump

-- the sign of a number in the code of an end
abbrev pub sign_from : ℕ → Sign
sign_from zero = Plus
sign_from (suc n) = Minus

-- bits 0 and 1 of a mark are the latest bits of the best paths that end with plus and with minus
abbrev pub marked_bit : ℕ → Sign → Bit
marked_bit mark Plus = bit_from (mark % 2)
marked_bit mark Minus = bit_from (mark / 2 % 2)

-- bits 2 and 3, and 4 and 5, are the ways in which a cell begins behind plus and behind minus
abbrev pub marked_way : ℕ → Sign → Way
marked_way mark Plus = way_from (mark / 4 % 4)
marked_way mark Minus = way_from (mark / 16 % 4)

-- the marks are those of the latest of these steps
pub record IsMarked (marks : StepMarks) (steps : List Step) : Type 0 where
  pub ends : (place : ℕ) (sign : Sign) → place < 45
      → (number : ℤ) × IsEnd LENGTHS steps place sign number (marked_bit (get_or marks.marks place 0) sign)
  pub starts : (place : ℕ) (sign : Sign) → place < 45
      → (number : ℤ) × IsBeginning LENGTHS steps 0 place sign number (marked_way (get_or marks.marks place 0) sign)
  pub best : (number : ℤ) × IsBestEnd LENGTHS steps marks.best_place marks.best_sign number
