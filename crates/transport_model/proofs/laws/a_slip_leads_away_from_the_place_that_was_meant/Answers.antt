use Rattle.std.proofs.Common.{arith}
use Rattle.transport_model.specs.Move.{day_of}
use Rattle.transport_model.proofs.SlipIsShort.{a_day_is_long, is_shortest}
use Rattle.transport_model.proofs.laws.a_slip_leads_away_from_the_place_that_was_meant.Goals as goal

pub returns-clause-after : goal.returns-clause-after
returns-clause-after c = λ count position order slip.
    c.moves_add_up.ensures (day_of count) position order slip (omega (arith, a_day_is_long count))

pub returns-clause-way : goal.returns-clause-way
returns-clause-way c = λ count position order slip bound.
    is_shortest (day_of count) _ _ slip (a_day_is_long count) bound
    (c.moves_add_up.ensures (day_of count) position order slip (omega (arith, a_day_is_long count)))
