-- Shapes of recordings that are made: the length of the cells begins with one length and moves by a step a cell
-- towards another, as where a tape is striped at a changing speed. They are this project's own.
use Rattle.std.specs.Prelude.{ℕ, suc, ◌+◌, ◌-◌, ◌*◌, ◌/◌, ◌<◌, ◌≤◌, min, max, List, [], ◌∷◌, Bool, true, false}
use Rattle.biphase.specs.declared.cell.Cell.{Cell}
use Rattle.biphase.specs.declared.cell.Cell.TheVariants.{Zero, One}
use Rattle.biphase.specs.declared.shaper.ShapeFault.{ShapeFault}
use Rattle.biphase.specs.declared.shaper.ShapeFault.TheVariants as fault
use Rattle.biphase.specs.declared.shaper.TheConstants.{MIN_SHAPED, MAX_SHAPED}

-- the length of the first cell, the length that the cells move to, and by how much they move a cell, in ticks
pub record Shape : Type 0 where
  pub from : ℕ
  pub to : ℕ
  pub step : ℕ

-- a shape, by the length at which it begins, the length at which it ends, and the step
abbrev pub shape_with : ℕ → ℕ → ℕ → Shape
shape_with from to step = record { from = from; to = to; step = step }

-- `from` moved by these ticks towards `to`, and not past it: of the lengths so near to `from` the nearest to `to`
abbrev pub moved : ℕ → ℕ → ℕ → ℕ
moved ticks from to = max (from - ticks) (min to (from + ticks))

-- the length of the cell at place k, counted from 0
abbrev pub length_at : Shape → ℕ → ℕ
length_at shape k = moved (k * shape.step) shape.from shape.to

-- a cell of this many ticks: the halves of a one are as equal as can be, the shorter one first
abbrev pub cell_with : ℕ → Bool → Cell
cell_with c false = Zero c
cell_with c true = One (c / 2) (c - c / 2)

-- the cells of bits, the first of which has the place k
unfoldable pub shaped_from : Shape → ℕ → List Bool → List Cell
shaped_from shape k [] = []
shaped_from shape k (bit ∷ bits) = cell_with (length_at shape k) bit ∷ shaped_from shape (suc k) bits

-- the cells of bits
abbrev pub shaped : Shape → List Bool → List Cell
shaped shape bits = shaped_from shape 0 bits

-- a cell of a shape may last so long
abbrev pub IsShaped : ℕ → Type 0
IsShaped c = (MIN_SHAPED ≤ c) × (c ≤ MAX_SHAPED)

-- cells that move so keep the normal tolerance
pub record IsShape (shape : Shape) : Type 0 where
  pub from : IsShaped shape.from
  pub to : IsShaped shape.to
  pub step : 8 * shape.step ≤ min shape.from shape.to

-- the fault is there, and none that is tested before it
abbrev pub IsFirstFault : ShapeFault → Shape → Type 0
IsFirstFault fault.Cell shape = ¬ (IsShaped shape.from × IsShaped shape.to)
IsFirstFault fault.Ramp shape = IsShaped shape.from × IsShaped shape.to × (min shape.from shape.to < 8 * shape.step)
