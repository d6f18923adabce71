use Rattle.std.proofs.Common.{ap, refl, sym, ◌∙◌}
use Rattle.direction_reader.specs.Counted.{counted}
use Rattle.direction_reader.proofs.counted_laws.a_list_has_one_list_of_counted_events.Goals as goal

pub returns-clause-some : goal.returns-clause-some
returns-clause-some c = λ system profile intervals.
    let plain = c.each_list_has_events.ensures system profile intervals in (_, (plain.0, plain.1, refl))

pub returns-clause-one : goal.returns-clause-one
returns-clause-one c = λ system profile intervals events others one two.
    one.2 ∙ ap counted (c.a_list_has_one_list_of_events.ensures system profile intervals one.0 two.0 one.1 two.1)
    ∙ sym two.2
