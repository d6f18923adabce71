use Rattle.std.proofs.Common.{refl, length, take, arith}
use Rattle.std.proofs.lemmas.Grind.{common_steps}
use Rattle.mtc_reader.specs.StandsFor.{events_of}
use Rattle.tc_c.specs.CMtc.{c_mtc_event, HasTold}
use Rattle.tc_c.proofs.BytesOn.{told_on}
use Rattle.tc_c.proofs.WritesOn.{goes_nowhere, rest_on, step_on}
use Rattle.tc_c.proofs.mtc_read.read_on.Goals as goal

pub reading-init : goal.reading-init
reading-init c = record {
  at = omega arith;
  made = omega arith;
  count = omega arith;
  goes = goes_nowhere HasTold c_mtc_event c.args.reader.now;
  few = λ none. (refl, refl, refl);
  rest = refl;
}

pub reading-preserved : goal.reading-preserved
reading-preserved c =
    let event = c.take-count.result.1 in
    record {
      at = grind (arith, common_steps, c.reading.invariant.at, c.take-count.ensures.most);
      made = grind (arith, common_steps, c.reading.invariant.made, c.put_mtc-made.ensures.most);
      count = grind (arith, common_steps, c.reading.invariant.count, c.take-count.ensures.count);
      goes = step_on HasTold c_mtc_event c.args.reader.now c.reading.reader c.take-count.new.self c.reading.at
          c.take-count.result.0 c.args.bytes.now (take c.reading.made c.reading.events)
          (take c.put_mtc-made.result c.put_mtc-made.new.events) (events_of event) c.reading.invariant.goes
          (told_on c.reading.reader c.take-count.new.self _ (events_of event) c.take-count.ensures.stands
          c.take-count.ensures.gives) c.put_mtc-made.ensures.writes;
      few = λ none. absurd (omega (arith, none, c.reading-test.true, c.reading.auto.events));
      rest = rest_on c.reading.made (length (events_of event)) c.put_mtc-made.result c.args.events.now
          c.reading.events c.put_mtc-made.new.events c.put_mtc-made.ensures.count c.reading.invariant.rest
          c.put_mtc-made.ensures.rest;
    }
