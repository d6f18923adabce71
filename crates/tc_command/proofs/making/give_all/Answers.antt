use Rattle.std.proofs.Common.{◌++◌, ◌∙◌}
use Rattle.std.proofs.KnownBytes.{Appends-trans}
use Rattle.tc_command.specs.PulledLemmas.{at_err}
use Rattle.tc_command.specs.PushLemmas.{front_of_piece, piece_pushed}
use Rattle.tc_command.proofs.making.give_all.Goals as goal

-- a front of the piece was pushed
pub returns-in_err-push_piece-clause-front : goal.returns-in_err-push_piece-clause-front
returns-in_err-push_piece-clause-front g c =
    let given = c.pieces.invariant.given in
    at_err c.from_residual.result
    (front_of_piece _ _ _ _ given.0 _ c.give.new.room.items _ given.2 c.give.ensures.given given.1
    (rw c.as_slice.ensures.value at c.in_err-push_piece.ensures.front))

-- the piece was pushed
pub pieces-preserved : goal.pieces-preserved
pieces-preserved g c =
    let given = c.pieces.invariant.given in
    let piece = c.give.new.room.items in
    record {
      empty = c.clear.ensures;
      given = (
        given.0 ++ piece,
        Appends-trans _ _ _ given.0 piece given.1 (rw c.as_slice.ensures.value at c.in_ok-push_piece.ensures.all),
        piece_pushed _ given.0 _ piece _ given.2 c.give.ensures.given,
      );
      same = c.in_ok-push_piece.ensures.cause ∙ c.pieces.invariant.same;
    }
