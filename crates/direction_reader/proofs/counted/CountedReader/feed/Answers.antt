use Rattle.std.proofs.Common.{◌∙◌, ap, ap₂, arith, subst, sym}
use Rattle.std.specs.Prelude.{◌++◌, None}
use Rattle.direction_reader.specs.declared.counting.Counting.{Counting}
use Rattle.direction_reader.specs.CountedStep.{heard_with_all, told_with_all, CountedStandsFor, CountedState}
use Rattle.direction_reader.specs.Events.{event_list}
use Rattle.direction_reader.proofs.CountedLists.{counting_of, some_more}
use Rattle.direction_reader.proofs.CountedTicks.{all_held, all_latest, in_turn, later_held}
use Rattle.direction_reader.proofs.counted.CountedReader.feed.Goals as goal

-- the word that is held ended by now
pub invariant_of-self : goal.invariant_of-self
invariant_of-self c =
    let s = c.feed-events.new.self.tick in
    let tick = c.feed-events.ensures.next.tick in
    rw c.hear.ensures.heard (all_held c.feed-events.new.self.intervals s c.self.inside.counting
    (event_list c.feed-events.result) (later_held c.self.inside.reader.tick s c.self.inside.counting.held
    (omega (arith, tick)) c.self.invariant)
    (all_latest c.feed-events.new.self.intervals s c.feed-events.result c.feed-events.ensures.brings))

-- what is given lies within the ticks
pub returns-clause-brings : goal.returns-clause-brings
returns-clause-brings c =
    let s = c.feed-events.new.self.tick in
    let tick = c.feed-events.ensures.next.tick in
    c.hear.ensures.brings c.feed-events.new.self.intervals s
    (later_held c.self.inside.reader.tick s c.self.inside.counting.held (omega (arith, tick)) c.self.invariant)
    c.feed-events.ensures.brings

-- and comes in turn
pub returns-clause-in_turn : goal.returns-clause-in_turn
returns-clause-in_turn c =
    let n = c.feed-events.new.self.intervals in
    let s = c.feed-events.new.self.tick in
    let tick = c.feed-events.ensures.next.tick in
    rw (← c.self.view_is, c.hear.ensures.told, c.hear.ensures.heard) (in_turn n c.self.inside.reader.tick s
    c.self.inside.counting (event_list c.feed-events.result) (omega (arith, tick)) c.self.invariant
    (all_latest n s c.feed-events.result c.feed-events.ensures.brings))

-- and is, behind what was given, what becomes of the whole list
pub returns-clause-stands : goal.returns-clause-stands
returns-clause-stands c = λ intervals told stands.
    let old : CountedState = record { reader = c.self.inside.reader; counting = c.self.inside.counting } in
    let is = subst (λ (r : CountedState). CountedStandsFor r intervals told) (sym c.self.view_is) stands in
    let own = event_list c.feed-events.result in
    let more = some_more None is.events own in
    let kept = ap₂ (λ w h. counting_of w h) is.word is.held in
    let now = c.hear.ensures.heard ∙ ap (λ (d : Counting). heard_with_all d own) kept ∙ sym more.1 in
    record {
      events = is.events ++ own;
      reader = c.feed-events.ensures.stands intervals is.events is.reader;
      word = ap (λ (d : Counting). d.word) now;
      held = ap (λ (d : Counting). d.held) now;
      all = ap₂ (λ ts us. ts ++ us) is.all (c.hear.ensures.told ∙ ap (λ (d : Counting). told_with_all d own) kept)
          ∙ sym more.0;
    }
