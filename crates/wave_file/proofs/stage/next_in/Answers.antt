use Rattle.std.proofs.Common.{◌-◌, arith, ap, sym, ◌∙◌}
use Rattle.std.proofs.lemmas.Bool.{ne_eqb}
use Rattle.wave_file.proofs.Pieces.{chunk_passed}
use Rattle.wave_file.proofs.stage.next_in.Goals as goal

pub returns-then-skip-length : goal.returns-then-skip-length
returns-then-skip-length c =
    let some = c.if-skip-ne0.true in
    let within = c.if-skip-length.true in
    rw c.in-Chunk.is (
      chunk_passed c.in-Chunk.skip c.in-Chunk.skip c.args.length 0 (omega arith) (omega (arith, some))
          (omega (arith, within)),
      λ places. rw (ne_eqb c.in-Chunk.skip 0 some) (omega (arith, within)),
    )

pub returns-else-skip-length : goal.returns-else-skip-length
returns-else-skip-length c =
    let over = c.if-skip-length.false in
    rw c.in-Chunk.is (
      chunk_passed c.in-Chunk.skip c.args.length c.args.length (c.in-Chunk.skip - c.args.length) (omega (arith, over))
          c.requires (omega arith),
      λ places. rw (ne_eqb c.in-Chunk.skip 0 c.if-skip-ne0.true) (omega (arith, over)),
    )
