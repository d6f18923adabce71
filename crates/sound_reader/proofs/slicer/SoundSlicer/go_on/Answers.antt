use Rattle.std.proofs.Common.{take, ◌∙◌, arith}
use Rattle.sound_reader.proofs.SlicesOn.{none_more, one_more, rest_behind}
use Rattle.sound_reader.proofs.slicer.SoundSlicer.go_on.Goals as goal

-- an interval that waited is written
pub waiting-preserved : goal.waiting-preserved
waiting-preserved c = record {
  least = omega (arith, c.waiting.invariant.least, c.put-at.ensures.count);
  most = omega (arith, c.put-at.ensures.count, c.waiting-test.true, c.put-at.auto.ticks);
  settings = c.next.ensures.settings ∙ c.waiting.invariant.settings;
  few = λ none. absurd (omega (arith, none, c.waiting.invariant.least, c.waiting-test.true, c.waiting.auto.ticks));
  writes = λ front given h.
      one_more c.waiting.self c.next.new.self (take c.waiting.at c.waiting.ticks)
      (take c.put-at.result c.put-at.new.ticks) c.in-Some.x front given (c.waiting.invariant.writes front given h)
      c.in-Some.ensures.gives c.put-at.ensures.writes;
  rest = rest_behind c.waiting.at c.put-at.result c.args.ticks.now c.waiting.ticks c.put-at.new.ticks
      (omega (arith, c.put-at.ensures.count)) c.waiting.invariant.rest c.put-at.ensures.rest;
}

-- none waits
pub returns-in-None-clause-writes : goal.returns-in-None-clause-writes
returns-in-None-clause-writes c = λ front given h.
    none_more c.waiting.self c.next.new.self front _ (c.waiting.invariant.writes front given h) c.in-None.ensures.gives
