use Rattle.std.proofs.Common.{◌∙◌, ◌++◌, [], fold, refl, sym, ap, append-nil}
use Rattle.std.proofs.lemmas.List.Sums.{fold-append}
use Rattle.direction_reader.specs.Events.{event_list, no_events}
use Rattle.made_commands.specs.declared.ltc_load.Counts.{Counts}
use Rattle.made_commands.specs.KeptLoad.{no_counts, with_event}
use Rattle.made_commands.proofs.ltc_load.Tally.interval.Goals as goal

-- the interval brought nothing
pub returns-in-Nothing-clause-reads : goal.returns-in-Nothing-clause-reads
returns-in-Nothing-clause-reads c = λ intervals read.
    let takes = c.step.ensures.next in
    record {
      system = takes.system ∙ read.system;
      profile = takes.profile ∙ read.profile;
      events = read.events ++ [];
      stands = c.in-Nothing.ensures.stands intervals read.events no_events read.stands refl;
      counts = read.counts ∙ ap (fold with_event no_counts) (sym (append-nil read.events));
    }

-- its events are counted after the others
pub returns-in_default-clause-reads : goal.returns-in_default-clause-reads
returns-in_default-clause-reads c = λ intervals read.
    let told = c.count.ensures.counted in
    let takes = c.step.ensures.next in
    record {
      system = rw c.count.ensures.reader (takes.system ∙ read.system);
      profile = rw c.count.ensures.reader (takes.profile ∙ read.profile);
      events = read.events ++ event_list told.0;
      stands = rw c.count.ensures.reader (c.step.ensures.stands intervals read.events told.0 read.stands told.1);
      counts = told.2 ∙ ap (λ (n : Counts). fold with_event n (event_list told.0)) read.counts
          ∙ sym (fold-append with_event no_counts read.events (event_list told.0));
    }
