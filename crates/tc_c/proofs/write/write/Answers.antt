use Rattle.std.proofs.Common.{refl, length, take, ◌∙◌, arith}
use Rattle.std.proofs.lemmas.Grind.{common_steps}
use Rattle.direction_reader.specs.Events.{event_list, listed}
use Rattle.sound_reader.specs.Sound.{StandsFor}
use Rattle.tc_c.specs.CEvent.{c_event}
use Rattle.tc_c.proofs.WritesOn.{goes_nowhere, rest_on, step_on, written_on}
use Rattle.tc_c.proofs.write.write.Goals.{else-writing-test, then-writing-test+then-second-made}
use Rattle.tc_c.proofs.write.write.Goals as goal

pub writing-init : goal.writing-init
writing-init c = record {
  at = omega arith;
  made = omega arith;
  settings = refl;
  goes = goes_nowhere StandsFor c_event c.args.reader.now;
  few = λ lt. (refl, refl, refl);
  rest = refl;
}

pub writing-preserved : goal.writing-preserved
writing-preserved c =
    let brought = c.read-count.result.1 in
    record {
      at = grind (arith, common_steps, c.writing.invariant.at, c.read-count.ensures.within);
      made = grind (arith, common_steps, c.writing.invariant.made, c.put-first.ensures, c.put-second.ensures);
      settings = c.read-count.ensures.settings ∙ c.writing.invariant.settings;
      goes = step_on StandsFor c_event c.args.reader.now c.writing.reader c.read-count.new.self c.writing.at
          c.read-count.result.0
          c.args.samples.now (take c.writing.made c.writing.events)
          (take c.put-second.result c.put-second.new.events) (event_list brought)
          c.writing.invariant.goes c.read-count.ensures.brings
          (written_on StandsFor c_event (take c.writing.made c.writing.events)
          (take c.put-first.result c.put-first.new.events) (take c.put-second.result c.put-second.new.events)
          (listed brought.first) (listed brought.second) c.put-first.ensures.writes c.put-second.ensures.writes);
      few = λ lt. absurd (omega (arith, lt, c.writing-test.true, c.writing.auto.events));
      rest = rest_on c.put-first.result (length (listed brought.second)) c.put-second.result c.args.events.now
          c.put-first.new.events c.put-second.new.events c.put-second.ensures.count
          (rest_on c.writing.made (length (listed brought.first)) c.put-first.result c.args.events.now
          c.writing.events c.put-first.new.events c.put-first.ensures.count c.writing.invariant.rest
          c.put-first.ensures.rest) c.put-second.ensures.rest;
    }

pub returns-clause-goes : goal.returns-clause-goes
returns-clause-goes c = elim c.writing-test.branch [
  | else-writing-test w ↦ rw w.reader-is rw w.events-is rw w.at-is c.writing.invariant.goes
  | then-writing-test+then-second-made w ↦ rw w.reader-is rw w.events-is rw w.at-is rw (← w.if-second-made.true)
      (step_on StandsFor c_event c.args.reader.now c.writing.reader w.read-count.new.self c.writing.at
      w.read-count.result.0
      c.args.samples.now (take c.writing.made c.writing.events) (take w.put-second.result w.put-second.new.events)
      (event_list w.read-count.result.1) c.writing.invariant.goes w.read-count.ensures.brings
      (written_on StandsFor c_event (take c.writing.made c.writing.events)
      (take w.put-first.result w.put-first.new.events) (take w.put-second.result w.put-second.new.events)
      (listed w.read-count.result.1.first) (listed w.read-count.result.1.second) w.put-first.ensures.writes
      w.put-second.ensures.writes))
]
