use Rattle.std.proofs.Common.{◌++◌, arith, subst, sum, List}
use Rattle.std.proofs.lemmas.List.Sums.{sum_by-append}
use Rattle.direction_reader.specs.declared.event.Event.{Event}
use Rattle.direction_reader.specs.ListEvents.{AreEvents}
use Rattle.direction_reader.proofs.CountedFronts.{first_of_all, first_of_more}
use Rattle.direction_reader.proofs.counted_laws.counted_told_come_first.Goals as goal

pub returns-clause-all : goal.returns-clause-all
returns-clause-all c = λ system profile front more told events until one all.
    let found = c.events_of_a_front_come_first.ensures.first system profile front more one.0 all.0 one.1 all.1 in
    let rest = c.events_of_a_front_come_first.ensures.later system profile front more one.0 found.0 one.1
    (subst (λ (es : List Event). AreEvents system profile (front ++ more) es) found.1 all.1) in
    let within = sum_by-append (λ n. n) front more in
    first_of_all (sum front) (sum (front ++ more)) one.0 found.0 all.0 told events until
    (c.events_come_in_order.ensures system profile front one.0 one.1) rest (omega (arith, within)) found.1 one.2 one.3
    all.2

pub returns-clause-more : goal.returns-clause-more
returns-clause-more c = λ system profile front more told later until now one all.
    let found = c.events_of_a_front_come_first.ensures.first system profile front more one.0 all.0 one.1 all.1 in
    let rest = c.events_of_a_front_come_first.ensures.later system profile front more one.0 found.0 one.1
    (subst (λ (es : List Event). AreEvents system profile (front ++ more) es) found.1 all.1) in
    let within = sum_by-append (λ n. n) front more in
    first_of_more (sum front) (sum (front ++ more)) one.0 found.0 all.0 told later until now
    (c.events_come_in_order.ensures system profile front one.0 one.1) rest (omega (arith, within)) found.1 one.2 one.3
    all.2 all.3
