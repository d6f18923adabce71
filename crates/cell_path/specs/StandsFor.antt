-- What is kept stands for the steps so far, the latest first.
use Rattle.std.specs.Prelude.{◌≡◌, ℕ, ◌-◌, ◌<◌, ◌≤◌, ℤ, pos, List, [], length, drop, get_or}
use Rattle.cell_path.specs.declared.cell.Bit.{Bit}
use Rattle.cell_path.specs.declared.cell.Cell.{Cell}
use Rattle.cell_path.specs.declared.cell.Sign.{Sign}
use Rattle.cell_path.specs.declared.cell.Sign.TheVariants.{Plus, Minus}
use Rattle.cell_path.specs.declared.cell.Step.{Step}
use Rattle.cell_path.specs.declared.cell.Way.{Way}
use Rattle.cell_path.specs.declared.ends.Ends.{Ends}
use Rattle.cell_path.specs.declared.four.Four.{Four}
use Rattle.cell_path.specs.declared.lengths.TheConstants.{LENGTHS}
use Rattle.cell_path.specs.Best.{IsBestOfAll}
use Rattle.cell_path.specs.Four.{at_step, low}
use Rattle.cell_path.specs.Kept.{lack_ago, number_ago, sum_ago, LacksState, RowsState, SumsState}
use Rattle.cell_path.specs.Marks.{bit_from, way_from}
use Rattle.cell_path.specs.Number.{IsBeginning, IsBestEnd, IsEnd}
use Rattle.cell_path.specs.Path.{total}
use Rattle.cell_path.specs.Trying.{end_number}
use Rattle.cell_path.specs.Unfinished.{lack, sum_of_sizes}

-- each sum is that of all steps up to its own
abbrev pub SumsStandFor : SumsState → List Step → Type 0
SumsStandFor sums steps = (ago : ℕ) → ago ≤ 99 → sum_ago sums ago ≡ low (total (drop ago steps))

-- what is kept is that of what the best path of all lacks
pub record HasLack (steps : List Step) (kept : ℕ) : Type 0 where
  pub path : List Cell
  pub is_best : IsBestOfAll LENGTHS steps path
  pub kept_is : kept ≡ low (lack LENGTHS steps path)

-- the sum is that of the sizes, and at each of the latest 96 steps the best path lacks what is kept
pub record LacksStandFor (lacks : LacksState) (steps : List Step) : Type 0 where
  pub sizes : lacks.sizes ≡ low (pos (sum_of_sizes steps))
  pub each : (ago : ℕ) → ago < 96 → ago < length steps → HasLack (drop ago steps) (lack_ago lacks ago)

-- what is kept is that of the score of the best beginning, in some way
pub record HasBeginning (lengths : List ℕ) (steps : List Step) (ago place : ℕ) (sign : Sign) (kept : ℕ) : Type 0 where
  pub number : ℤ
  pub way : Way
  pub is : IsBeginning lengths steps ago place sign number way
  pub kept_is : kept ≡ low number

-- each number is that of the score of the best that can stand before a cell which begins there
abbrev pub RowsStandFor : RowsState → List Step → Type 0
RowsStandFor rows steps = (ago place : ℕ) (sign : Sign) → ago ≤ 96 → place < 45
    → HasBeginning LENGTHS steps ago place sign (number_ago rows ago place sign)

-- the steps so far, at one of the latest four
abbrev pub steps_at : ℕ → List Step → List Step
steps_at step steps = drop (3 - step) steps

-- at one of four steps the number is that of the score of the best path that ends so, and the code its latest bit
pub record IsEndAt (steps : List Step) (place : ℕ) (sign : Sign) (four : Four) (step : ℕ) : Type 0 where
  pub number : ℤ
  pub bit : Bit
  pub is : IsEnd LENGTHS (steps_at step steps) place sign number bit
  pub kept : at_step four.numbers step ≡ low number
  pub code : bit_from (at_step four.codes step) ≡ bit

-- no end at all
abbrev pub no_end : Four
no_end = record { numbers = []; codes = [] }

-- the ends of a length and a sign
abbrev pub end_at : Ends → ℕ → Sign → Four
end_at ends place Plus = get_or ends.plus place no_end
end_at ends place Minus = get_or ends.minus place no_end

-- at one of the latest four steps, each of the first `most` lengths has its ends
abbrev pub AreEnds : ℕ → Ends → List Step → ℕ → Type 0
AreEnds most ends steps step = (place : ℕ) (sign : Sign) → place < most
    → IsEndAt steps place sign (end_at ends place sign) step

-- the codes of all ends are those of bits
abbrev pub AreBits : Ends → Type 0
AreBits ends = (step place : ℕ) (sign : Sign) → step < 4 → place < 45
    → at_step (end_at ends place sign).codes step < 2

-- the number is that of the score of the best path of all, and the code says how it ends
pub record IsBestAt (steps : List Step) (four : Four) (step : ℕ) : Type 0 where
  pub place : ℕ
  pub sign : Sign
  pub number : ℤ
  pub is : IsBestEnd LENGTHS (steps_at step steps) place sign number
  pub kept : at_step four.numbers step ≡ low number
  pub code : at_step four.codes step ≡ end_number place sign

-- the number is that of the score of the best beginning behind the step, and the code its way
pub record IsStartAt (steps : List Step) (place : ℕ) (sign : Sign) (four : Four) (step : ℕ) : Type 0 where
  pub number : ℤ
  pub way : Way
  pub is : IsBeginning LENGTHS (steps_at step steps) 0 place sign number way
  pub kept : at_step four.numbers step ≡ low number
  pub code : way_from (at_step four.codes step) ≡ way
