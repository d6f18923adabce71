-- The cells of a piece, as they are found, have the bits of the tape's own cells there.
use Rattle.std.proofs.Common.{◌≡◌, ℕ, ◌+◌, Bool, true, false, cond, ◌&&◌, nat_le, List, [], ◌∷◌, refl, ap}
use Rattle.biphase.specs.declared.cell.Cell.{Cell}
use Rattle.biphase.specs.declared.cell.Cell.TheVariants.{Zero, One}
use Rattle.biphase.specs.Chain.{bits}
use Rattle.cell_tracker.specs.ChainPiece.{cells_between}
use Rattle.tape_sound.specs.Late.{AreFoundAs}

pub same_piece : (delay first low high at : ℕ) (tape cells : List Cell) → AreFoundAs delay first tape cells
    → bits (cells_between low high at cells) ≡ bits (cells_between low high at tape)
same_piece delay first low high at [] [] found = refl
same_piece delay first low high at [] (x ∷ cells) found = absurd found
same_piece delay first low high at (cell ∷ tape) [] found = absurd found
same_piece delay first low high at (Zero c ∷ tape) (Zero x ∷ cells) found =
    let more = same_piece delay found.0 low high (at + 1) tape cells found.3 in
    by_test (nat_le low at && nat_le (at + 1) high) more
  where
    by_test : (b : Bool) → bits (cells_between low high (at + 1) cells) ≡ bits (cells_between low high (at + 1) tape)
        → bits (cond b (Zero x ∷ cells_between low high (at + 1) cells) (cells_between low high (at + 1) cells))
        ≡ bits (cond b (Zero c ∷ cells_between low high (at + 1) tape) (cells_between low high (at + 1) tape))
    by_test true more = ap (λ (l : List Bool). false ∷ l) more
    by_test false more = more
same_piece delay first low high at (One a b ∷ tape) (One x y ∷ cells) found =
    let more = same_piece delay found.0 low high (at + 2) tape cells found.3 in
    by_test (nat_le low at && nat_le (at + 2) high) more
  where
    by_test : (t : Bool) → bits (cells_between low high (at + 2) cells) ≡ bits (cells_between low high (at + 2) tape)
        → bits (cond t (One x y ∷ cells_between low high (at + 2) cells) (cells_between low high (at + 2) cells))
        ≡ bits (cond t (One a b ∷ cells_between low high (at + 2) tape) (cells_between low high (at + 2) tape))
    by_test true more = ap (λ (l : List Bool). true ∷ l) more
    by_test false more = more
same_piece delay first low high at (Zero c ∷ tape) (One x y ∷ cells) found = absurd found.2
same_piece delay first low high at (One a b ∷ tape) (Zero x ∷ cells) found = absurd found.2
