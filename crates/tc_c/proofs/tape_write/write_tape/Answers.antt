use Rattle.std.proofs.Common.{◌≡◌, refl, length, take, ◌∙◌, ap, arith}
use Rattle.std.proofs.lemmas.Grind.{common_steps}
use Rattle.direction_reader.specs.ConsecutiveStep.{consecutive_list}
use Rattle.tape_reader.specs.Tape.{StandsFor}
use Rattle.tc_c.specs.CEvent.{c_told}
use Rattle.tc_c.specs.Write.{room_for, room_of}
use Rattle.tc_c.proofs.WritesOn.{goes_nowhere, rest_on, step_on}
use Rattle.tc_c.proofs.tape_write.write_tape.Goals.{else-writing-test, then-writing-test+then-last-made}
use Rattle.tc_c.proofs.tape_write.write_tape.Goals as goal

pub writing-init : goal.writing-init
writing-init c = record {
  at = omega arith;
  made = omega arith;
  settings = refl;
  goes = goes_nowhere StandsFor c_told c.args.tape.now;
  few = λ lt. (refl, refl, refl);
  rest = refl;
}

pub writing-preserved : goal.writing-preserved
writing-preserved c =
    let told = c.read-count.result.1 in
    let room : room_for c.witness.result ≡ room_of c.args.tape.now = ap room_for c.witness.ensures in
    record {
      at = grind (arith, common_steps, c.writing.invariant.at, c.read-count.ensures.within);
      made = grind (
        arith,
        common_steps,
        c.writing.invariant.made,
        c.put_all-last.ensures.count,
        c.read-count.ensures.most,
        c.room_for-room.ensures.enough,
      );
      settings = c.read-count.ensures.settings ∙ c.writing.invariant.settings;
      goes = step_on StandsFor c_told c.args.tape.now c.writing.tape c.read-count.new.self c.writing.at
          c.read-count.result.0 c.args.intervals.now (take c.writing.made c.writing.events)
          (take c.put_all-last.result c.put_all-last.new.events) (consecutive_list told) c.writing.invariant.goes
          c.read-count.ensures.brings c.put_all-last.ensures.writes;
      few = λ lt. absurd (omega (
        arith,
        lt,
        room,
        c.room_for-room.ensures.value,
        c.writing-test.true,
        c.writing.auto.events,
      ));
      rest = rest_on c.writing.made (length (consecutive_list told)) c.put_all-last.result c.args.events.now
          c.writing.events c.put_all-last.new.events c.put_all-last.ensures.count c.writing.invariant.rest
          c.put_all-last.ensures.rest;
    }

pub returns-clause-goes : goal.returns-clause-goes
returns-clause-goes c = elim c.writing-test.branch [
  | else-writing-test w ↦ rw w.tape-is rw w.events-is rw w.at-is c.writing.invariant.goes
  | then-writing-test+then-last-made w ↦ rw w.tape-is rw w.events-is rw w.at-is rw (← w.if-last-made.true)
      (step_on StandsFor c_told c.args.tape.now c.writing.tape w.read-count.new.self c.writing.at
      w.read-count.result.0 c.args.intervals.now (take c.writing.made c.writing.events)
      (take w.put_all-last.result w.put_all-last.new.events) (consecutive_list w.read-count.result.1)
      c.writing.invariant.goes w.read-count.ensures.brings w.put_all-last.ensures.writes)
]
