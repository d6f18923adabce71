use Rattle.line_file.proofs.PieceByPiece.{stands_behind}
use Rattle.line_file.proofs.field.stands_again.Goals as goal

-- the bytes behind the place begin with those before it
pub returns-then-last-gt0-clause-again : goal.returns-then-last-gt0-clause-again
returns-then-last-gt0-clause-again c = λ same.
    stands_behind c.args.bytes.now c.args.at c.args.last c.starts_with.result c.requires.at c.requires.last
    c.starts_with.ensures.value same
