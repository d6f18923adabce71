-- A cell more: its intervals stand behind those of the cells so far.
use Rattle.std.proofs.Common.{◌≡◌, ℕ, Bool, List, ◌∷◌, ◌++◌, ap, sym, ◌∙◌, append_assoc}
use Rattle.biphase.specs.declared.cell.Cell.{Cell}
use Rattle.biphase.specs.Chain.{flat, intervals_of}
use Rattle.biphase.specs.Shape.{Shape, shaped}
use Rattle.code_maker.specs.Bits.{ticks_of}

-- a cell was made of a bit, and its intervals are written
pub cell_on : (old new : List ℕ) (shape next : Shape) (cell : Cell) (bit : Bool) (more : List Bool)
    → new ≡ old ++ intervals_of cell → shaped shape (bit ∷ more) ≡ cell ∷ shaped next more
    → new ++ ticks_of next more ≡ old ++ ticks_of shape (bit ∷ more)
cell_on old new shape next cell bit more written e =
    ap (λ (l : List ℕ). l ++ ticks_of next more) written ∙ append_assoc old (intervals_of cell) (ticks_of next more)
    ∙ ap (λ (l : List ℕ). old ++ l) (sym (ap flat e))
