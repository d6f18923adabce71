-- A hissy recording for examples: real bits, in cells of which each is a quarter longer than the one before it, or a
-- fifth shorter.
use Rattle.std.specs.Prelude.{ℕ, zero, suc, ◌/◌, ◌%◌, ◌==◌, List, [], ◌∷◌}
use Rattle.biphase.specs.declared.cell.Cell.{Cell}
use Rattle.biphase.specs.Shape.{cell_with}

-- this many bits of a number, the least significant bit first, in cells of two lengths that take turns
unfoldable pub taking_turns : ℕ → ℕ → ℕ → ℕ → List Cell
taking_turns this next zero number = []
taking_turns this next (suc count) number = cell_with this (number % 2 == 1) ∷ taking_turns next this count (number / 2)

-- the word of 00:00:00:00 at 25 frames behind a zero and a one, in cells of 90 and 112 ticks
abbrev pub hissy_cells : List Cell
hissy_cells = taking_turns 90 112 82 0x2fff02000000000000002
