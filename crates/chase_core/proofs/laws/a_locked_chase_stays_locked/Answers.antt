use Rattle.chase_core.proofs.FromRowToRow.{held_from_row}
use Rattle.chase_core.proofs.laws.a_locked_chase_stays_locked.Goals as goal

-- the first row holds the lock, and so does each later one
pub returns : goal.returns
returns c = λ loop rows first last i leaves line stands are steady at_first locked least most at_line.
    let says = held_from_row first loop rows last i leaves line stands are steady at_first locked least most at_line in
    (says.locked, says.no_loss, says.near)
