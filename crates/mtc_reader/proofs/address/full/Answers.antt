use Rattle.std.proofs.Common.{ap, ◌∙◌, ◌%◌}
use Rattle.tc_address.specs.declared.count.Count.{Count}
use Rattle.tc_address.specs.Label.{address}
use Rattle.mtc_reader.specs.Events.{full_address, label_or_fault}
use Rattle.mtc_reader.proofs.Told.{full_refused}
use Rattle.mtc_reader.proofs.address.full.Goals as goal

-- its address has a fault
pub returns-in-Err : goal.returns-in-Err
returns-in-Err c =
    let a = c.args in
    full_refused c.in-Err.fault (full_address a.hours a.minutes a.seconds a.frames) a.place
    (c.in-Err.ensures ∙ ap (λ (n : Count). label_or_fault (address n (a.hours % 32) a.minutes a.seconds a.frames))
    c.count_of.ensures)
