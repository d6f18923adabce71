use Rattle.std.proofs.Common.{◌≡◌, ◌∙◌, ◌+◌, ◌-◌, ◌/◌, ◌++◌, ℕ, List, Bool, ap, sym, take, length, arith}
use Rattle.std.proofs.lemmas.Grind.{common_steps}
use Rattle.biphase.specs.Chain.{intervals_of}
use Rattle.direction_reader.specs.Played.{low_bits}
use Rattle.direction_reader.specs.PlayedLemmas.{low_bits-more}
use Rattle.code_maker.specs.Bits.{ticks_of}
use Rattle.code_maker.proofs.BitsOn.{cell_on}
use Rattle.code_maker.proofs.SamplesOn.{rest_on}
use Rattle.code_maker.proofs.bits.put_bits.Goals as goal

-- one bit more
pub cells-preserved : goal.cells-preserved
cells-preserved c =
    let old = take c.cells.made c.cells.ticks in
    let shape = c.cells.shaper in
    let more = low_bits-more c.cells._done c.args.count c.cells.rest c.cells-test.true in
    record {
      most = grind (arith, common_steps, c.cells.invariant.most, c.put_cell-made.ensures.most);
      cells = λ tail.
          let later = low_bits (c.args.count - (c.cells._done + 1)) (c.cells.rest / 2) ++ tail in
          cell_on old (take c.put_cell-made.result c.put_cell-made.new.ticks) shape c.next_cell.new.self
          c.next_cell.result _ later c.put_cell-made.ensures.writes (c.next_cell.ensures.cells later)
          ∙ ap (λ (list : List Bool). old ++ ticks_of shape (list ++ tail)) (sym more) ∙ c.cells.invariant.cells tail;
      rest = rest_on c.cells.made (length (intervals_of c.next_cell.result)) c.put_cell-made.result c.args.ticks.now
          c.cells.ticks c.put_cell-made.new.ticks c.put_cell-made.ensures.count c.cells.invariant.rest
          c.put_cell-made.ensures.rest;
    }

-- no bit is left
pub returns-clause-cells : goal.returns-clause-cells
unfolding low_bits
returns-clause-cells c = λ tail.
    let none : c.args.count - c.cells._done ≡ 0 = omega arith in
    let shape = c.cells.shaper in
    let old = take c.cells.made c.cells.ticks in
    let e = ap (λ (n : ℕ). old ++ ticks_of shape (low_bits n c.cells.rest ++ tail)) none in
    sym e ∙ c.cells.invariant.cells tail
