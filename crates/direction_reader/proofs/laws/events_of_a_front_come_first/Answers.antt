use Rattle.std.proofs.Common.{◌++◌, length, sum}
use Rattle.direction_reader.proofs.FrontsFirst.{front_first}
use Rattle.direction_reader.proofs.BehindFront.{all_behind, all_later}
use Rattle.direction_reader.proofs.LaterEvents.{events_behind}
use Rattle.direction_reader.proofs.laws.events_of_a_front_come_first.Goals as goal

pub returns-clause-first : goal.returns-clause-first
returns-clause-first c = λ system profile front more events all are too. front_first
    (record { one_word = c.spelling_is_exact.ensures.one_word; no_fault = c.spelling_is_exact.ensures.no_fault })
    c.stretches_go_on.ensures system profile front more events all
    (c.events_are_those_that_are_spelled.ensures.gathered system profile front events are)
    (c.events_are_those_that_are_spelled.ensures.gathered system profile (front ++ more) all too)

pub returns-clause-behind : goal.returns-clause-behind
returns-clause-behind c = λ system profile front more events rest are too. all_behind front rest (events_behind
    (record { one_word = c.spelling_is_exact.ensures.one_word; no_fault = c.spelling_is_exact.ensures.no_fault })
    c.stretches_go_on.ensures system profile front more events rest
    (c.events_are_those_that_are_spelled.ensures.gathered system profile front events are)
    (c.events_are_those_that_are_spelled.ensures.gathered system profile (front ++ more) (events ++ rest) too))

pub returns-clause-later : goal.returns-clause-later
returns-clause-later c =
    λ system profile front more events rest are too. all_later (length front) (sum front) rest (events_behind
    (record { one_word = c.spelling_is_exact.ensures.one_word; no_fault = c.spelling_is_exact.ensures.no_fault })
    c.stretches_go_on.ensures system profile front more events rest
    (c.events_are_those_that_are_spelled.ensures.gathered system profile front events are)
    (c.events_are_those_that_are_spelled.ensures.gathered system profile (front ++ more) (events ++ rest) too))
