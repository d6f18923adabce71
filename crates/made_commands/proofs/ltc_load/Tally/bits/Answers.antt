use Rattle.std.proofs.Common.{◌≡◌, ◌∙◌, ◌+◌, ◌-◌, ◌/◌, ◌%◌, ◌++◌, ◌∷◌, ℕ, List, Bool, ap, ap₂, sym, subst, arith}
use Rattle.std.proofs.Common.{append_assoc, append-nil}
use Rattle.std.specs.Prelude.{◌==◌}
use Rattle.biphase.specs.declared.cell.Cell.{Cell}
use Rattle.biphase.specs.Chain.{flat, intervals_of}
use Rattle.direction_reader.specs.Played.{low_bits}
use Rattle.made_commands.specs.declared.chance.Chance.{Chance}
use Rattle.made_commands.specs.KeptLoad.{HasRead}
use Rattle.made_commands.specs.Load.{behind, cells_by}
use Rattle.direction_reader.specs.PlayedLemmas.{low_bits-more}
use Rattle.made_commands.proofs.ltc_load.Tally.bits.Goals as goal

-- one bit more
pub cells-preserved : goal.cells-preserved
cells-preserved c =
    let before = c.cells.chance in
    let later = low_bits (80 - (c.cells._done + 1)) (c.cells.rest / 2) in
    let more : low_bits (80 - c.cells._done) c.cells.rest ≡ (c.cells.rest % 2 == 1) ∷ later =
    low_bits-more c.cells._done 80 c.cells.rest c.cells-test.true in
    let cell = c.next_cell.result in
    let after = c.next_cell.new.self in
    let one : intervals_of cell ++ flat (cells_by after later)
    ≡ flat (cells_by before (low_bits (80 - c.cells._done) c.cells.rest)) =
    ap₂ (λ (k : Cell) (g : Chance). intervals_of k ++ flat (cells_by g later)) c.next_cell.ensures.cell
    c.next_cell.ensures.next
    ∙ ap (λ (list : List Bool). flat (cells_by before list)) (sym more) in
    let count = c.cell.ensures.count in
    let few = c.cells.invariant.count in
    record {
      chance = c.next_cell.ensures.stays;
      next =
          ap (λ (g : Chance). behind g later) c.next_cell.ensures.next
          ∙ ap (λ (list : List Bool). behind before list) (sym more) ∙ c.cells.invariant.next;
      fits = c.cell.ensures.fits;
      count = omega (arith, count, few);
      reads = λ intervals read.
          let fed = c.cells.invariant.reads intervals read in (
            fed.0 ++ intervals_of cell,
            c.cell.ensures.reads fed.0 fed.1,
            append_assoc fed.0 (intervals_of cell) (flat (cells_by after later))
                ∙ ap (λ (list : List ℕ). fed.0 ++ list) one ∙ fed.2,
          );
    }

-- no bit is left
pub returns-clause-next : goal.returns-clause-next
unfolding low_bits
returns-clause-next c =
    let none : 80 - c.cells._done ≡ 0 = omega arith in
    sym (ap (λ (n : ℕ). behind c.cells.chance (low_bits n c.cells.rest)) none) ∙ c.cells.invariant.next

pub returns-clause-reads : goal.returns-clause-reads
unfolding low_bits
returns-clause-reads c = λ intervals read.
    let none : 80 - c.cells._done ≡ 0 = omega arith in
    let fed = c.cells.invariant.reads intervals read in
    let left = ap (λ (n : ℕ). fed.0 ++ flat (cells_by c.cells.chance (low_bits n c.cells.rest))) none in
    subst (λ (list : List ℕ). HasRead c.cells.self list) (sym (append-nil fed.0) ∙ sym left ∙ fed.2) fed.1
