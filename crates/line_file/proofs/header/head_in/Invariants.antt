use Rattle.line_file.proofs.PieceByPiece.{HeadSoFar}
use Rattle.line_file.proofs.header.head_in.Given as goal

abbrev pub invariant-head : goal.invariant-head
invariant-head l = HeadSoFar l.bytes l.place
