use Rattle.std.proofs.Common.{[], arith, refl, slice_index, subst}
use Rattle.direction_reader.specs.declared.consecutive_event.ConsecutiveEvents.{ConsecutiveEvents}
use Rattle.direction_reader.specs.ConsecutiveStep.{consecutive_list}
use Rattle.tape_reader.proofs.ReadsOneMore.{keeps_on, reads_one_more}
use Rattle.tape_reader.proofs.reading_on.read_on.Goals as goal

-- the interval that brought something
pub returns-then-not-are_none-clause-brings : goal.returns-then-not-are_none-clause-brings
returns-then-not-are_none-clause-brings g c =
    let reading = g.R.Reading.reading in
    let x = slice_index c.args.intervals.now c.reading.at in
    let own = consecutive_list c.told-told.result in
    reads_one_more (reading c.args.reader.now) (reading c.reading.reader) (reading c.step-brought.new.self) c.reading.at x
    c.args.intervals.now own c.reading.invariant.brings
    (λ front told h. c.step-brought.ensures.stands front told own h c.told-told.ensures.told) c.reading-test.true refl

-- it may have brought something, and did not
pub reading-preserved-else-not-are_none : goal.reading-preserved-else-not-are_none
reading-preserved-else-not-are_none g c =
    let reading = g.R.Reading.reading in
    let x = slice_index c.args.intervals.now c.reading.at in
    let tells = subst (λ (told : ConsecutiveEvents).
    g.R.Reading.tells c.step-brought.new.self c.step-brought.result (consecutive_list told))
    (c.if-not-are_none.ensures.0 refl) c.told-told.ensures.told in
    record {
      at = omega (arith, c.reading-test.true);
      keeps = keeps_on (reading c.args.reader.now) (reading c.reading.reader) (reading c.step-brought.new.self) x
          c.reading.invariant.keeps c.step-brought.ensures.next;
      brings = reads_one_more (reading c.args.reader.now) (reading c.reading.reader)
          (reading c.step-brought.new.self) c.reading.at x c.args.intervals.now [] c.reading.invariant.brings
          (λ front told h. c.step-brought.ensures.stands front told [] h tells) c.reading-test.true refl;
    }

-- it brought nothing
pub reading-preserved : goal.reading-preserved
reading-preserved g c =
    let reading = g.R.Reading.reading in
    let x = slice_index c.args.intervals.now c.reading.at in
    record {
      at = omega (arith, c.reading-test.true);
      keeps = keeps_on (reading c.args.reader.now) (reading c.reading.reader) (reading c.step-brought.new.self) x
          c.reading.invariant.keeps c.step-brought.ensures.next;
      brings = reads_one_more (reading c.args.reader.now) (reading c.reading.reader)
          (reading c.step-brought.new.self) c.reading.at x c.args.intervals.now [] c.reading.invariant.brings
          (λ front told h. c.step-brought.ensures.stands front told [] h
          (c.if-not-is_nothing.ensures.none refl c.step-brought.new.self)) c.reading-test.true refl;
    }
