-- The best ways to begin behind the latest four steps have been put in.
use Rattle.std.specs.Prelude.{◌≡◌, ℕ, zero, suc, ◌+◌, ◌-◌, ◌*◌, ◌%◌, ◌^◌, ◌<◌, ◌≤◌, ℤ, pos, ◌+ℤ◌, ◌≤ℤ◌, List, []}
use Rattle.std.specs.Prelude.{length, get_or}
use Rattle.cell_path.specs.declared.cell.Bit.{Bit}
use Rattle.cell_path.specs.declared.cell.Sign.{Sign}
use Rattle.cell_path.specs.declared.cell.Sign.TheVariants.{Plus, Minus}
use Rattle.cell_path.specs.declared.cell.Step.{Step}
use Rattle.cell_path.specs.declared.cell.Way.{Way}
use Rattle.cell_path.specs.declared.ends.Ends.{Ends}
use Rattle.cell_path.specs.declared.four.Four.{Four}
use Rattle.cell_path.specs.declared.lengths.TheConstants.{JUMP, LENGTHS}
use Rattle.cell_path.specs.declared.mark.FourMarks.{FourMarks}
use Rattle.cell_path.specs.declared.mark.StepMarks.{StepMarks}
use Rattle.cell_path.specs.declared.start.Costs.{Costs}
use Rattle.cell_path.specs.Four.{at_step, low}
use Rattle.cell_path.specs.Kept.{number_ago, number_next, RowsState}
use Rattle.cell_path.specs.Lengths.{length_in}
use Rattle.cell_path.specs.Marks.{bit_from, marked_bit, marked_way, way_from}
use Rattle.cell_path.specs.Number.{IsBeginning, IsEnd}
use Rattle.cell_path.specs.Path.{level_at}
use Rattle.cell_path.specs.Scores.{AreSteps}
use Rattle.cell_path.specs.Trying.{IsBestBefore}
use Rattle.cell_path.specs.StandsFor.{end_at, steps_at, AreEnds, IsBestAt}

-- the marks of one of four steps
abbrev pub marks_of : FourMarks → ℕ → StepMarks
marks_of marks zero = marks.first
marks_of marks (suc zero) = marks.second
marks_of marks (suc (suc zero)) = marks.third
marks_of marks (suc (suc (suc n))) = marks.fourth

-- that of a length
abbrev pub mark_of_step : FourMarks → ℕ → ℕ → ℕ
mark_of_step marks step place = get_or (marks_of marks step).marks place 0

-- the same where the marks of four steps stand together, length by length
abbrev pub mark_at : List (List ℕ) → ℕ → ℕ → ℕ
mark_at marks step place = at_step (get_or marks place []) step

-- a mark has the bits of these ends and the ways of these beginnings, at one of four steps
pub record HasMarks (mark : ℕ) (plus_end minus_end plus_start minus_start : Four) (step : ℕ) : Type 0 where
  pub plus : marked_bit mark Plus ≡ bit_from (at_step plus_end.codes step)
  pub minus : marked_bit mark Minus ≡ bit_from (at_step minus_end.codes step)
  pub plus_way : marked_way mark Plus ≡ way_from (at_step plus_start.codes step)
  pub minus_way : marked_way mark Minus ≡ way_from (at_step minus_start.codes step)

-- the ends of the best paths of all are marked as they were
pub record KeepsBest (old new : FourMarks) : Type 0 where
  pub places : (step : ℕ) → (marks_of new step).best_place ≡ (marks_of old step).best_place
  pub signs : (step : ℕ) → (marks_of new step).best_sign ≡ (marks_of old step).best_sign

-- each step has the marks of the first `most` lengths
pub record AreSpread (most : ℕ) (lengths : List (List ℕ)) (old new : FourMarks) : Type 0 where
  pub marks : (step place : ℕ) → step < 4 → place < most
      → mark_of_step new step place ≡ mark_at lengths step place % 256
  pub best : KeepsBest old new

-- the numbers of the steps so far are as they were
pub record KeepsNumbers (old new : RowsState) : Type 0 where
  pub next : new.next ≡ old.next
  pub numbers : (ago other : ℕ) (sign : Sign) → ago ≤ 96 → other < 45
      → number_ago new ago other sign ≡ number_ago old ago other sign

-- at each of four steps the product is so many times the number
abbrev pub AreTimes : List ℕ → ℕ → List ℕ → Type 0
AreTimes numbers by products = (step n : ℕ) → step < 4 → at_step numbers step ≡ low (pos n)
    → at_step products step ≡ low (pos (by * n))

-- with these mean sizes it costs so much to begin a cell of a length, by the way
pub record AreCosts (levels : List ℕ) (place : ℕ) (costs : Costs) : Type 0 where
  pub shorter : 0 < place → AreTimes levels (length_in LENGTHS place - length_in LENGTHS (place - 1)) costs.shorter
  pub longer : place < 44 → AreTimes levels (length_in LENGTHS (place + 1) - length_in LENGTHS place) costs.longer
  pub jump : AreTimes levels (JUMP * length_in LENGTHS place) costs.jump

-- what the best beginnings behind one of the latest four steps are made of
pub record AreStartsOf (ends : Ends) (best : Four) (levels : List ℕ) (steps : List Step) (step : ℕ) : Type 0 where
  pub within : step < 4
  pub long : 4 ≤ length steps
  pub are_steps : AreSteps steps
  pub level : at_step levels step ≡ level_at (steps_at step steps)
  pub are_ends : AreEnds 45 ends steps step
  pub is_best : IsBestAt steps best step

-- the number is that of the score of the best of the first `most` ways, and the code that way; and it lies near the
-- ends of its length
pub record IsStartSoFar (steps : List Step) (most place : ℕ) (sign : Sign) (so_far : Four) (step : ℕ) : Type 0 where
  pub number : ℤ
  pub way : Way
  pub is : IsBestBefore LENGTHS (steps_at step steps) most place sign number way
  pub kept : at_step so_far.numbers step ≡ low number
  pub code : way_from (at_step so_far.codes step) ≡ way
  pub near : (end : ℤ) (bit : Bit) → IsEnd LENGTHS (steps_at step steps) place sign end bit
      → (end ≤ℤ (number +ℤ pos (2 ^ 29))) × (number ≤ℤ (end +ℤ pos (2 ^ 29)))

-- the number of the best beginning has been put in, and the mark has its way, and the bit of the end
pub record IsStarted (steps : List Step) (rows : RowsState) (marks : List (List ℕ)) (ends : Ends) (place : ℕ)
    (sign : Sign) (step : ℕ) : Type 0 where
  pub number : ℤ
  pub way : Way
  pub is : IsBeginning LENGTHS (steps_at step steps) 0 place sign number way
  pub kept : number_next rows step place sign ≡ low number
  pub marked : marked_way (mark_at marks step place) sign ≡ way
  pub bit : marked_bit (mark_at marks step place) sign ≡ bit_from (at_step (end_at ends place sign).codes step)

-- the first `most` lengths have been started
abbrev pub AreStarted : ℕ → List Step → RowsState → List (List ℕ) → Ends → ℕ → Type 0
AreStarted most steps rows marks ends step = (place : ℕ) (sign : Sign) → place < most
    → IsStarted steps rows marks ends place sign step

-- the same from one state of the rows to another, in which the numbers of the steps so far are as they were
pub record StartsSoFar (old new : RowsState) (marks : List (List ℕ)) (ends : Ends) (best_end : Four)
    (levels : List ℕ) (most : ℕ) : Type 0 where
  pub started : (step : ℕ) (steps : List Step) → AreStartsOf ends best_end levels steps step
      → AreStarted most steps new marks ends step
  pub keeps : KeepsNumbers old new
