-- A word lies in one place, its place has one list of cells, and these one swing and one list of heights.
use Rattle.std.proofs.Common.{◌≡◌, ℕ, ℤ, List, ap, ap₂, sym, ◌∙◌}
use Rattle.luma_row.specs.declared.levels.Levels.{Levels}
use Rattle.luma_row.specs.declared.place.Place.{Place}
use Rattle.luma_row.specs.declared.row.CodeRow.{CodeRow}
use Rattle.luma_row.specs.Cells.{cells_of, swing}
use Rattle.luma_row.specs.Heights.{heights_of}
use Rattle.luma_row.specs.Row.{IsCode}
use Rattle.luma_row.proofs.OnePlace.{one_place}

same_levels : (a b : Levels) → a.swing ≡ b.swing → a.heights ≡ b.heights → a ≡ b
same_levels a b swings heights = ap₂ (λ (s : ℕ) (h : List ℤ). record { swing = s; heights = h }) swings heights

pub one_code : (row : List ℕ) (a b : CodeRow) → IsCode row a → IsCode row b → a ≡ b
one_code row a b p q =
    let same = one_place row a.place b.place p.lies q.lies in
    let swings = p.swing_is ∙ (ap (λ (x : Place). swing (cells_of row x)) same ∙ sym q.swing_is) in
    let heights = p.heights_are ∙ (ap (λ (x : Place). heights_of (cells_of row x)) same ∙ sym q.heights_are) in
    ap₂ (λ (x : Place) (l : Levels). record { place = x; levels = l }) same
    (same_levels a.levels b.levels swings heights)
