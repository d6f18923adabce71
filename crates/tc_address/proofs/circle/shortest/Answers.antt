use Rattle.std.proofs.Common.{arith}
use Rattle.std.proofs.lemmas.Int.{ints}
use Rattle.tc_address.proofs.AroundTheDay.{front_way, back_way}
use Rattle.tc_address.proofs.circle.shortest.Goals as goal

-- at most half the circle lies ahead
pub returns-then-ahead-day-clause-shortest : goal.returns-then-ahead-day-clause-shortest
returns-then-ahead-day-clause-shortest c =
    front_way _ _ _ c.ahead-ahead.result _ (omega (arith, ints)) c.requires.to (omega arith)
    c.ahead-ahead.ensures.reaches

-- more than half the circle lies ahead, so the way back is taken
pub returns-else-ahead-day-clause-shortest : goal.returns-else-ahead-day-clause-shortest
returns-else-ahead-day-clause-shortest c =
    back_way _ _ _ c.ahead-ahead.result _ (omega (arith, ints)) c.requires.even c.requires.to (omega arith)
    c.ahead-ahead.ensures.within c.ahead-ahead.ensures.reaches
