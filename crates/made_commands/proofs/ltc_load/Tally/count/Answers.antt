use Rattle.std.proofs.Common.{◌∙◌, fold, sym, ap}
use Rattle.std.proofs.lemmas.List.Sums.{fold-append}
use Rattle.direction_reader.specs.Events.{listed}
use Rattle.made_commands.specs.declared.ltc_load.Counts.{Counts}
use Rattle.made_commands.specs.KeptLoad.{with_event}
use Rattle.made_commands.proofs.ltc_load.Tally.count.Goals as goal

-- both events are counted, one after the other
pub returns-clause-counted : goal.returns-clause-counted
returns-clause-counted c =
    let own = c.events-events.result in
    let before = c.args.self.now.counts in (
      own,
      c.events-events.ensures.told c.requires.may,
      c.add-2.ensures.counted ∙ ap (λ (n : Counts). fold with_event n (listed own.second)) c.add.ensures.counted
          ∙ sym (fold-append with_event before (listed own.first) (listed own.second)),
    )
