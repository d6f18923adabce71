use Rattle.line_file.proofs.PieceByPiece.{LinesWithLast}
use Rattle.line_file.proofs.field.field_in.Given as goal

abbrev pub invariant-lines : goal.invariant-lines
invariant-lines l = LinesWithLast l.header l.count l.place l.bytes l._line l.width l.last l.reader
