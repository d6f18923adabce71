-- Cells that are gathered one before another end apart by their lengths.
use Rattle.std.proofs.Common.{◌≡◌, ℕ, ◌+◌, ◌*◌, ◌≤◌, List, [], ◌∷◌, ◌++◌, length, refl, arith}
use Rattle.cell_path.specs.declared.placed.Placed.{Placed}
use Rattle.cell_path.specs.Decided.{end_behind}
use Rattle.cell_path.specs.Spaced.{AreSpaced}

-- each ends two steps behind what was decided before at least
abbrev pub AreBehind : ℕ → List Placed → Type 0
AreBehind done [] = Unit {0}
AreBehind done (cell ∷ before) = (done + 2 ≤ cell.end) × AreBehind done before

pub behind_pushed : (done : ℕ) (waiting : List Placed) (cell : Placed) → AreBehind done waiting → done + 2 ≤ cell.end
    → AreBehind done (waiting ++ cell ∷ [])
behind_pushed done [] cell are far = (far, tt)
behind_pushed done (w ∷ waiting) cell are far = (are.0, behind_pushed done waiting cell are.1 far)

-- where the cells before end, with an earlier one
pub end_of_pushed : (from end : ℕ) (waiting : List Placed) (cell : Placed) → cell.end ≡ end
    → end_behind from (waiting ++ cell ∷ []) ≡ end_behind end waiting
end_of_pushed from end [] cell is = is
end_of_pushed from end (w ∷ waiting) cell is = refl

-- an earlier one is gathered, which ends where the path was followed to
pub spaced_pushed : (most from end : ℕ) (waiting : List Placed) (cell : Placed) → AreSpaced most end waiting
    → cell.end ≡ end → from + 2 ≤ end → end ≤ from + most → AreSpaced most from (waiting ++ cell ∷ [])
spaced_pushed most from end [] cell are is far near = (omega (arith, is), omega (arith, is), tt)
spaced_pushed most from end (w ∷ waiting) cell are is far near =
    let same = end_of_pushed from end waiting cell is in (
      omega (arith, same, are.0),
      omega (arith, same, are.1),
      spaced_pushed most from end waiting cell are.2 is far near,
    )

-- a path that was followed nearly to what was decided, or before it
pub spaced_behind : (done from : ℕ) (waiting : List Placed) → AreSpaced 96 from waiting → AreBehind done waiting
    → from ≤ done + 24 → AreSpaced 120 done waiting
spaced_behind done from [] are behind near = tt
spaced_behind done from (cell ∷ []) are behind near = (behind.0, omega (arith, are.1), tt)
spaced_behind done from (cell ∷ c ∷ waiting) are behind near =
    (are.0, omega (arith, are.1), spaced_behind done from (c ∷ waiting) are.2 behind.1 near)

-- so there are not many of them
pub spaced_many : (most from : ℕ) (waiting : List Placed) → AreSpaced most from waiting
    → 2 * length waiting + from ≤ end_behind from waiting
spaced_many most from [] are = omega arith
spaced_many most from (cell ∷ waiting) are =
    let before = spaced_many most from waiting are.2 in omega (arith, before, are.0)

-- the earliest of those that wait
pub earliest_is_near : (most from : ℕ) (waiting : List Placed) (cell : Placed)
    → AreSpaced most from (waiting ++ cell ∷ []) → (from + 2 ≤ cell.end) × (cell.end ≤ from + most)
earliest_is_near most from [] cell are = (are.0, are.1)
earliest_is_near most from (w ∷ waiting) cell are = earliest_is_near most from waiting cell are.2

-- and the others behind it
pub others_are_spaced : (most from : ℕ) (waiting : List Placed) (cell : Placed)
    → AreSpaced most from (waiting ++ cell ∷ []) → AreSpaced most cell.end waiting
others_are_spaced most from [] cell are = tt
others_are_spaced most from (w ∷ waiting) cell are =
    let same = end_of_pushed from cell.end waiting cell refl in
    (omega (arith, same, are.0), omega (arith, same, are.1), others_are_spaced most from waiting cell are.2)

-- none ends behind the latest
pub earliest_is_first : (most from : ℕ) (waiting : List Placed) (cell : Placed)
    → AreSpaced most from (waiting ++ cell ∷ []) → cell.end ≤ end_behind from (waiting ++ cell ∷ [])
earliest_is_first most from [] cell are = omega arith
earliest_is_first most from (w ∷ waiting) cell are =
    let first = earliest_is_first most from waiting cell are.2 in omega (arith, first, are.0)

-- nothing is gathered yet
pub spaced_of_none : (most from to : ℕ) (waiting : List Placed) → length waiting ≡ 0 → AreSpaced most from waiting
    → AreSpaced most to waiting
spaced_of_none most from to [] none are = tt
spaced_of_none most from to (w ∷ waiting) none are = absurd (omega (arith, none))
