use Rattle.std.proofs.Common.{◌∙◌, ap, subst, sym, None, List, ◌≡◌}
use Rattle.std.specs.List.{AllZip}
use Rattle.direction_reader.specs.declared.firm_event.FirmEvent.{FirmEvent}
use Rattle.direction_reader.specs.Consecutive.{consecutive}
use Rattle.direction_reader.specs.ConsecutiveTape.{IsSameOrTold}
use Rattle.direction_reader.specs.FirmTape.{IsJudged}
use Rattle.direction_reader.proofs.NextWordLists.{all_judged_too, all_same}
use Rattle.direction_reader.proofs.consecutive_laws.the_next_word_changes_words_alone.Goals as goal

pub returns-clause-firm : goal.returns-clause-firm
returns-clause-firm c = λ system profile intervals firm events are too.
    let same : firm ≡ too.0 =
    c.a_list_has_one_list_of_firm_events.ensures.one system profile intervals firm too.0 are too.1 in
    let is : events ≡ consecutive firm = too.2 ∙ ap consecutive (sym same) in
    subst (λ (es : List FirmEvent). AllZip IsSameOrTold firm es) (sym is) (all_same None firm None)

pub returns-clause-plain : goal.returns-clause-plain
returns-clause-plain c = λ system profile intervals plain events are too.
    let zip = c.a_witness_changes_words_alone.ensures system profile intervals plain too.0 are too.1 in
    subst (λ (es : List FirmEvent). AllZip IsJudged plain es) (sym too.2) (all_judged_too None plain too.0 None zip)
