use Rattle.std.proofs.Common.{◌+◌, ◌*◌, arith}
use Rattle.chase_core.proofs.FromRowToRow.{pulled_from_row, error_at}
use Rattle.chase_core.proofs.LockIsHeld.{at_most}
use Rattle.chase_core.proofs.laws.pulling_ends.Goals as goal

-- each row comes nearer
pub returns-clause-locks : goal.returns-clause-locks
returns-clause-locks c = λ loop rows row master first last n i line stands are steady is reads pulls near least most
    at_line.
    let says = pulled_from_row first loop rows row master last n i line stands are steady is pulls reads near least most
    at_line in
    (says.no_loss, says.locked)

-- half a day is 81,510 rows at most
pub returns-clause-always : goal.returns-clause-always
returns-clause-always c = λ loop rows row master first last i line stands are steady is reads pulls least most at_line.
    let near = at_most _ 103_680_000 (40 + 1_272 * 81_510) (error_at first loop rows row master stands are is reads)
    (omega arith) in
    let says = pulled_from_row first loop rows row master last 81_510 i line stands are steady is pulls reads near least
    most at_line in
    (says.no_loss, says.locked)
