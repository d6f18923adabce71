use Rattle.std.proofs.Common.{◌≡◌, ◌+◌, ◌*◌, ◌%◌, ap, ◌∙◌}
use Rattle.tc_address.specs.Label.{address}
use Rattle.mtc_reader.specs.Events.{label_or_fault, quarter_address}
use Rattle.mtc_reader.proofs.Told.{quarter_told, quarter_refused}
use Rattle.mtc_reader.proofs.address.quarter.Goals as goal

-- its address is a label
pub returns-in-Ok : goal.returns-in-Ok
returns-in-Ok c =
    let same : address c.count_of.result (c.bits.result + 16 * (c.bits-last.result % 2))
    (c.bits-2.result + 16 * (c.bits-3.result % 4))
    (c.bits-4.result + 16 * (c.bits-5.result % 4)) (c.bits-6.result + 16 * (c.bits-7.result % 2)) ≡ quarter_address
    c.args.window.now = cc in
    quarter_told c.args.direction c.in-Ok.label (quarter_address c.args.window.now) c.args.place
    (c.in-Ok.ensures ∙ ap label_or_fault same)

-- or it has a fault
pub returns-in-Err : goal.returns-in-Err
returns-in-Err c =
    let same : address c.count_of.result (c.bits.result + 16 * (c.bits-last.result % 2))
    (c.bits-2.result + 16 * (c.bits-3.result % 4))
    (c.bits-4.result + 16 * (c.bits-5.result % 4)) (c.bits-6.result + 16 * (c.bits-7.result % 2)) ≡ quarter_address
    c.args.window.now = cc in
    quarter_refused c.args.direction c.in-Err.fault (quarter_address c.args.window.now) c.args.place
    (c.in-Err.ensures ∙ ap label_or_fault same)
