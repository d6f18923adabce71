use Rattle.std.proofs.Common.{[], ◌≡◌, ◌-◌, take, drop, length, refl, sym, ap, subst, ◌∙◌, arith}
use Rattle.std.proofs.lemmas.Grind.{common_steps}
use Rattle.direction_reader.specs.declared.event.Events.{Events}
use Rattle.direction_reader.specs.Events.{event_list, no_events}
use Rattle.direction_reader.specs.StandsFor.{Tells}
use Rattle.sound_reader.specs.Sound.{Brings, SoundState}
use Rattle.sound_reader.proofs.OnlyPieces.{none_but_the_latest}
use Rattle.sound_reader.proofs.StepsGoOn.{brings_over, tells_none, then_waiting}
use Rattle.sound_reader.proofs.reader.SoundReader.read.Goals as goal

-- the interval that was found brought nothing
pub reading-preserved-then-is_nothing : goal.reading-preserved-then-is_nothing
reading-preserved-then-is_nothing c =
    let found = rw c.in-Some.is at c.slice-count.ensures.found in
    let told = tells_none c.slice-count.new.self.reader c.in-Some.brought
    (sym c.is_nothing.ensures ∙ c.if-is_nothing.true) in
    record {
      at = grind (arith, common_steps, c.reading.invariant.at, c.slice-count.ensures.within);
      settings = c.slice-count.ensures.settings ∙ c.reading.invariant.settings;
      brings = brings_over c.args.self.now c.reading.self c.slice-count.new.self c.reading.at c.slice-count.result.0
          c.args.samples.now [] c.reading.invariant.brings (found.brings no_events told);
      settled = λ full. found.settled;
    }

-- it brought an event
pub returns-then-not-are_none-2-clause-brings : goal.returns-then-not-are_none-2-clause-brings
returns-then-not-are_none-2-clause-brings c =
    let found = rw c.in-Some.is at c.slice-count.ensures.found in
    let events = c.events-events.result in
    brings_over c.args.self.now c.reading.self c.slice-count.new.self c.reading.at c.slice-count.result.0
    c.args.samples.now (event_list events) c.reading.invariant.brings
    (found.brings events c.events-events.ensures)

pub returns-then-not-are_none-2-clause-within : goal.returns-then-not-are_none-2-clause-within
returns-then-not-are_none-2-clause-within c =
    grind (arith, common_steps, c.reading.invariant.at, c.slice-count.ensures.within)

pub returns-then-not-are_none-2-clause-settings : goal.returns-then-not-are_none-2-clause-settings
returns-then-not-are_none-2-clause-settings c = c.slice-count.ensures.settings ∙ c.reading.invariant.settings

-- it may have brought one, and did not
pub reading-preserved-else-not-are_none-2 : goal.reading-preserved-else-not-are_none-2
reading-preserved-else-not-are_none-2 c =
    let found = rw c.in-Some.is at c.slice-count.ensures.found in
    let next = c.slice-count.new.self in
    let none : c.events-events.result ≡ no_events = c.if-not-are_none-2.ensures.0 refl in
    let told = subst (λ (e : Events). Tells next.reader c.in-Some.brought e) none
    c.events-events.ensures in
    record {
      at = grind (arith, common_steps, c.reading.invariant.at, c.slice-count.ensures.within);
      settings = c.slice-count.ensures.settings ∙ c.reading.invariant.settings;
      brings = brings_over c.args.self.now c.reading.self next c.reading.at c.slice-count.result.0
          c.args.samples.now [] c.reading.invariant.brings (found.brings no_events told);
      settled = λ full. found.settled;
    }

-- others waited, and brought an event
pub returns-then-not-are_none-3-clause-brings : goal.returns-then-not-are_none-3-clause-brings
returns-then-not-are_none-3-clause-brings c =
    let xs = c.args.samples.now in
    let new = c.read_waiting-events-in-None.new.self in
    let own = event_list c.read_waiting-events-in-None.result in
    brings_over c.args.self.now c.reading.self new c.reading.at c.slice-count.result.0 xs own
    c.reading.invariant.brings
    (then_waiting c.reading.self c.slice-count.new.self new
    (take c.slice-count.result.0 (take (length xs - c.reading.at) (drop c.reading.at xs))) own
    (c.slice-count.ensures.waits c.in-None.is) c.read_waiting-events-in-None.ensures.brings)

-- or none
pub reading-preserved : goal.reading-preserved
reading-preserved c =
    let xs = c.args.samples.now in
    let next = c.slice-count.new.self in
    let new = c.read_waiting-events-in-None.new.self in
    let none : c.read_waiting-events-in-None.result ≡ no_events = c.if-not-are_none-3.ensures.0 refl in
    let waited = subst (λ (e : Events). Brings next new [] (event_list e)) none
    c.read_waiting-events-in-None.ensures.brings in
    record {
      at = grind (arith, common_steps, c.reading.invariant.at, c.slice-count.ensures.within);
      settings = ap (λ (s : SoundState). s.settings) c.read_waiting-events-in-None.ensures.rest
          ∙ c.slice-count.ensures.settings ∙ c.reading.invariant.settings;
      brings = brings_over c.args.self.now c.reading.self new c.reading.at c.slice-count.result.0 xs []
          c.reading.invariant.brings
          (then_waiting c.reading.self next new
          (take c.slice-count.result.0 (take (length xs - c.reading.at) (drop c.reading.at xs))) []
          (c.slice-count.ensures.waits c.in-None.is) waited);
      settled = λ full. c.read_waiting-events-in-None.ensures.settled none full;
    }

-- the samples before the latest brought no event
pub returns-then-not-are_none-2-clause-latest : goal.returns-then-not-are_none-2-clause-latest
returns-then-not-are_none-2-clause-latest c = λ told.
    none_but_the_latest c.args.self.now c.reading.self c.reading.at c.slice-count.result.0 c.args.samples.now
    c.reading.invariant.settings c.reading.invariant.brings
    (c.reading.invariant.settled (sym c.if-not-is_full.ensures))
    c.what_is_given_are_the_events_of_the_samples.ensures c.slice-count.ensures.pass c.slice-count.ensures.some

pub returns-then-not-are_none-3-clause-latest : goal.returns-then-not-are_none-3-clause-latest
returns-then-not-are_none-3-clause-latest c = λ told.
    none_but_the_latest c.args.self.now c.reading.self c.reading.at c.slice-count.result.0 c.args.samples.now
    c.reading.invariant.settings c.reading.invariant.brings
    (c.reading.invariant.settled (sym c.if-not-is_full.ensures))
    c.what_is_given_are_the_events_of_the_samples.ensures c.slice-count.ensures.pass c.slice-count.ensures.some
