use Rattle.chase_core.proofs.FromRowToRow.{held_over_a_slip}
use Rattle.chase_core.proofs.laws.a_slip_of_less_than_the_window_costs_no_lock.Goals as goal

pub returns : goal.returns
returns c = λ loop rows i row next leaves line stands are here later reads slip at_row locked at_line.
    let says = held_over_a_slip i loop rows row next leaves line stands are here later reads slip at_row locked at_line
    in
    (says.locked, says.no_loss, says.near)
