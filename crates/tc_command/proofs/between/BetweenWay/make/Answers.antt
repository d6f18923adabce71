use Rattle.std.proofs.Common.{refl}
use Rattle.tc_command.proofs.WorkedSo.{text_worked}
use Rattle.tc_command.proofs.between.BetweenWay.make.Goals as goal

pub returns : goal.returns
returns g c = λ text is.
    let e = c.give_all.ensures in
    (refl, refl, rw (← is) (text_worked _ _ _ _ _ _ _ _ _ _ e.all e.front e.why e.cause))
