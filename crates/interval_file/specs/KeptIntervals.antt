-- The intervals of cells that are made are those of a file. No promise speaks of it.
use Rattle.std.proofs.Common.{ℕ, ◌≤◌, Bool, List, [], ◌∷◌}
use Rattle.std.specs.List.{All}
use Rattle.std.proofs.lemmas.List.Elements.{All-head, All-tail}
use Rattle.limits.specs.declared.recording.TheConstants.{MAX_INTERVAL}
use Rattle.biphase.specs.Chain.{flat}
use Rattle.biphase.specs.Shape.{Shape, IsShape, shaped}
use Rattle.interval_file.specs.Grammar.{AreIntervals}

-- an interval that a file can have
abbrev pub IsInterval : ℕ → Type 0
IsInterval x = (1 ≤ x) × (x ≤ MAX_INTERVAL)

-- the cells of each shape have intervals that a file can have
abbrev pub ShapesAreIntervals : Type 0
ShapesAreIntervals = (shape : Shape) (list : List Bool) → IsShape shape → All IsInterval (flat (shaped shape list))

-- such intervals, one after another, are those of a file
pub in_range : (xs : List ℕ) → All IsInterval xs → AreIntervals xs
in_range [] all = tt
in_range (x ∷ xs) all =
    let first = All-head IsInterval x xs all in
    (first.0, first.1, in_range xs (All-tail IsInterval x xs all))
