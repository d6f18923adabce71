-- What is kept of the latest steps to follow paths back, and where a path is followed to.
use Rattle.std.specs.Prelude.{◌≡◌, ℕ, ◌+◌, ◌-◌, ◌%◌, ◌^◌, ◌<◌, ◌≤◌, min}
use Rattle.std.specs.Prelude.{List, [], ◌∷◌, length, drop, get_or, Option, Some, None}
use Rattle.cell_path.specs.declared.cell.Cell.{Cell}
use Rattle.cell_path.specs.declared.cell.Sign.{Sign}
use Rattle.cell_path.specs.declared.cell.Sign.TheVariants.{Plus}
use Rattle.cell_path.specs.declared.cell.Step.{Step}
use Rattle.cell_path.specs.declared.cell.Way.{Way}
use Rattle.cell_path.specs.declared.cell.Way.TheVariants.{Same, Shorter, Longer, Jump}
use Rattle.cell_path.specs.declared.lengths.TheConstants.{LENGTHS}
use Rattle.cell_path.specs.declared.mark.StepMarks.{StepMarks}
use Rattle.cell_path.specs.declared.point.Back.{Back}
use Rattle.cell_path.specs.declared.point.Point.{Point}
use Rattle.cell_path.specs.Best.{IsBest}
use Rattle.cell_path.specs.Marks.{IsMarked}

-- the marks of the latest steps, in a ring, and how many steps there were
pub record MarksState : Type 0 where
  pub ring : List StepMarks
  pub count : ℕ

-- the marks of a step that is not there
abbrev pub no_marks : StepMarks
no_marks = record { marks = []; best_place = 0; best_sign = Plus }

-- the marks of the step so long ago
abbrev pub marks_ago : MarksState → ℕ → StepMarks
marks_ago marks ago = get_or marks.ring ((marks.count + 4_096 - ago) % 4_096) no_marks

-- the same without the marks of so many of the latest steps
abbrev pub without_latest : ℕ → MarksState → MarksState
without_latest count marks = record { ring = marks.ring; count = marks.count - count }

-- the ring has 4,096 marks, at most 2^40 steps have come and four more, and each best place is one of the 45 lengths
pub record AreMarks (marks : MarksState) : Type 0 where
  pub long : length marks.ring ≡ 4_096
  pub count : marks.count ≤ 2 ^ 40 + 4
  pub places : (ago : ℕ) → ago < 4_096 → (marks_ago marks ago).best_place < 45

-- as many steps have come, and the marks of the latest 4,096 are kept
pub record MarksStandFor (marks : MarksState) (steps : List Step) : Type 0 where
  pub count : marks.count ≡ length steps
  pub marked : (ago : ℕ) → ago < 4_096 → ago < length steps → IsMarked (marks_ago marks ago) (drop ago steps)

-- where the cell before ends, by the way to this one: behind a jump where the best path of all ends
abbrev pub point_before : Way → ℕ → ℕ → Sign → StepMarks → Point
point_before Same ago place sign there = record { ago = ago; place = place; sign = sign }
point_before Shorter ago place sign there = record { ago = ago; place = place - 1; sign = sign }
point_before Longer ago place sign there = record { ago = ago; place = min (place + 1) 44; sign = sign }
point_before Jump ago place sign there = record { ago = ago; place = there.best_place; sign = there.best_sign }

-- what is left of the path is the best that ends in the point, or nothing
abbrev pub LeadsTo : List Step → List Cell → Option Point → Type 0
LeadsTo steps rest None = rest ≡ []
LeadsTo steps rest (Some point) =
    (point.ago < length steps) × IsBest LENGTHS (drop point.ago steps) point.place point.sign rest

-- the cell is the latest of the path, and the point leads to what stands before it
pub record GoesBack (steps : List Step) (path : List Cell) (back : Back) : Type 0 where
  pub rest : List Cell
  pub path_is : path ≡ back.cell ∷ rest
  pub leads : LeadsTo steps rest back.before
