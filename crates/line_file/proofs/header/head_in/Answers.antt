use Rattle.std.proofs.Common.{sym, ◌∙◌}
use Rattle.line_file.proofs.PieceByPiece.{head_bad, head_more}
use Rattle.line_file.proofs.header.head_in.Goals as goal

pub returns-then-is_wrong : goal.returns-then-is_wrong
returns-then-is_wrong c =
    rw c.head_fault.ensures
    (sym (head_bad c.args.bytes.now c.head.place 0 c.head.invariant c.head-test.true c.if-bytes-place.false
    (sym c.is_wrong.ensures ∙ c.if-is_wrong.true)))

pub head-preserved : goal.head-preserved
head-preserved c =
    head_more c.args.bytes.now c.head.place 0 c.head.invariant c.head-test.true c.if-bytes-place.false
    (sym c.is_wrong.ensures ∙ c.if-is_wrong.false)
