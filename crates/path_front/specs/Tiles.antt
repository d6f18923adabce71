-- The intervals of cells. A cell begins where the one before it ended: its first interval takes the difference.
use Rattle.std.specs.Prelude.{ℕ, ◌+◌, ◌-◌, ◌*◌, ◌≤◌, min, ltb, Bool, true, false, ◌||◌, List, [], ◌∷◌}
use Rattle.std.specs.Int.{div_ceil}
use Rattle.cell_path.specs.declared.cell.Bit.{Bit}
use Rattle.cell_path.specs.declared.cell.Bit.TheVariants.{Zero, One}
use Rattle.limits.specs.declared.recording.TheConstants.{MAX_INTERVAL}
use Rattle.path_front.specs.declared.gate.Judged.{Judged}

-- an interval that a file can say
abbrev pub IsSaid : ℕ → Type 0
IsSaid interval = (1 ≤ interval) × (interval ≤ MAX_INTERVAL)

-- a tick is cut off the front where the stretch breaks: no reader takes it for a cell or a half
abbrev pub cut : Bool → List ℕ → List ℕ
cut breaks [] = []
cut false (first ∷ more) = first ∷ more
cut true (first ∷ more) = 1 ∷ (first - 1) ∷ more

-- a zero is one interval. A one is two halves, of which the second lasts half of the cell, rounded up to a tick; where
-- less than two ticks would be left for the first, it has two, and the stretch breaks there.
abbrev pub intervals : Bit → Bool → ℕ → ℕ → List ℕ
intervals Zero breaks whole half = cut breaks (whole ∷ [])
intervals One breaks whole half =
    let second = min half (whole - 2) in
    cut (breaks || ltb whole (half + 2)) ((whole - second) ∷ second ∷ [])

-- the intervals of a judged cell, at this many ticks a step
abbrev pub tiles_of : ℕ → Judged → List ℕ
tiles_of ticks judged =
    intervals judged.cell.bit judged.breaks (judged.cell.span * ticks) (div_ceil (judged.cell.length * ticks) 2)
