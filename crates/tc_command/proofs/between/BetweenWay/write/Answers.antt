use Rattle.std.proofs.Common.{refl}
use Rattle.tc_command.proofs.WorkedSo.{text_worked}
use Rattle.tc_command.proofs.between.BetweenWay.write.Goals as goal

pub returns : goal.returns
returns g c = λ text is.
    let e = c.give_text.ensures in
    (refl, refl, rw (← is) (text_worked _ _ _ _ _ _ _ _ _ _ e.all e.front e.why e.cause))
