use Rattle.std.proofs.Common.{ap, refl, sym, ◌∙◌, List, None, sum}
use Rattle.direction_reader.specs.declared.event.Event.{Event}
use Rattle.direction_reader.specs.CountedTold.{held_behind, told_behind, until_held}
use Rattle.direction_reader.proofs.counted_laws.a_list_has_one_list_of_counted_told.Goals as goal

pub returns-clause-some : goal.returns-clause-some
returns-clause-some c = λ system profile intervals.
    let plain = c.each_list_has_events.ensures system profile intervals in (_, _, (plain.0, plain.1, refl, refl))

pub returns-clause-one : goal.returns-clause-one
returns-clause-one c = λ system profile intervals told others until another one two.
    let same = c.a_list_has_one_list_of_events.ensures system profile intervals one.0 two.0 one.1 two.1 in (
      one.2 ∙ ap (told_behind None) same ∙ sym two.2,
      one.3 ∙ ap (λ (es : List Event). until_held (sum intervals) (held_behind None es)) same ∙ sym two.3,
    )
