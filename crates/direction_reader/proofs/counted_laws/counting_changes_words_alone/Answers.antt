use Rattle.std.proofs.Common.{ap, subst, sym, ◌∙◌, List, None}
use Rattle.std.specs.List.{AllZip}
use Rattle.direction_reader.specs.declared.firm_event.FirmEvent.{FirmEvent}
use Rattle.direction_reader.specs.Counted.{counted}
use Rattle.direction_reader.specs.FirmTape.{IsJudged}
use Rattle.direction_reader.proofs.CountedNeighbours.{all_judged}
use Rattle.direction_reader.proofs.counted_laws.counting_changes_words_alone.Goals as goal

pub returns : goal.returns
returns c = λ system profile intervals plain events are too.
    let same = c.a_list_has_one_list_of_events.ensures system profile intervals too.0 plain too.1 are in
    subst (λ (ts : List FirmEvent). AllZip IsJudged plain ts) (sym (too.2 ∙ ap counted same)) (all_judged None plain)
