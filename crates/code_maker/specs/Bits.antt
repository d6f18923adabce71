-- Bits as the intervals of their cells.
use Rattle.std.specs.Prelude.{◌≡◌, ℕ, Bool, List, ◌++◌}
use Rattle.biphase.specs.Chain.{flat}
use Rattle.biphase.specs.Shape.{Shape, shaped}

-- the intervals of the cells of bits, whose lengths are those of a shape
abbrev pub ticks_of : Shape → List Bool → List ℕ
ticks_of shape bits = flat (shaped shape bits)

-- some intervals are those of these bits: whatever bits come behind them, their cells have the lengths of the shape
-- that goes on
abbrev pub GoesOnBehind : Shape → List Bool → Shape → List ℕ → Type 0
GoesOnBehind old bits new ticks =
    (more : List Bool) → ticks ++ ticks_of new more ≡ ticks_of old (bits ++ more)
