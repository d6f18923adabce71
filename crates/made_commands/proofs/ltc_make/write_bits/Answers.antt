use Rattle.std.proofs.Common.{◌≡◌, ◌∙◌, ◌+◌, ◌-◌, ◌/◌, ◌++◌, ℕ, List, Bool, ap, sym, arith}
use Rattle.direction_reader.specs.Played.{low_bits}
use Rattle.made_commands.specs.KeptStriping.{cell_bytes}
use Rattle.made_commands.proofs.MadeInPieces.{cell_pushed}
use Rattle.direction_reader.specs.PlayedLemmas.{low_bits-more}
use Rattle.made_commands.proofs.ltc_make.write_bits.Goals as goal

-- one bit more
pub cells-preserved : goal.cells-preserved
cells-preserved c =
    let old = c.cells.room.items in
    let shape = c.cells.shaper in
    let more = low_bits-more c.cells._done 80 c.cells.rest c.cells-test.true in
    record {
      cells = λ tail.
          let later = low_bits (80 - (c.cells._done + 1)) (c.cells.rest / 2) ++ tail in
          cell_pushed old c.push_cell.new.room.items shape c.next_cell.new.self c.next_cell.result _ later
          c.push_cell.ensures.items (c.next_cell.ensures.cells later)
          ∙ ap (λ (list : List Bool). old ++ cell_bytes shape (list ++ tail)) (sym more) ∙ c.cells.invariant.cells tail;
      len = omega arith;
    }

-- no bit is left
pub returns-clause-cells : goal.returns-clause-cells
unfolding low_bits
returns-clause-cells c = λ tail.
    let none : 80 - c.cells._done ≡ 0 = omega arith in
    let shape = c.cells.shaper in
    let e = ap (λ (n : ℕ). c.cells.room.items ++ cell_bytes shape (low_bits n c.cells.rest ++ tail)) none in
    sym e ∙ c.cells.invariant.cells tail
