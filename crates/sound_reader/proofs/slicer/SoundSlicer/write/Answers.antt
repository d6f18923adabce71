use Rattle.std.proofs.Common.{◌+◌, ◌++◌, ◌∙◌, refl, append-nil, take, arith}
use Rattle.std.proofs.lemmas.Grind.{common_steps}
use Rattle.sound_reader.proofs.SlicesOn.{gives_over, rest_behind}
use Rattle.sound_reader.proofs.slicer.SoundSlicer.write.Goals as goal

-- what waited is written
pub writing-init : goal.writing-init
writing-init c = record {
  at = omega arith;
  made = omega (arith, c.go_on-made.ensures.most, c.go_on-made.auto.ticks);
  settings = c.go_on-made.ensures.settings;
  few = λ none. (refl, c.go_on-made.ensures.few none);
  settled = λ lt. c.go_on-made.ensures.settled (omega (arith, lt, c.go_on-made.auto.ticks));
  goes = λ front given h.
      rw (append-nil front) (c.go_on-made.ensures.writes front given (rw (append-nil given) h));
  rest = c.go_on-made.ensures.rest;
}

-- more samples are cut, and what they bring is written as far as there is room
pub writing-preserved : goal.writing-preserved
writing-preserved c =
    let more = c.go_on-made-in-writing in
    record {
      at = grind (arith, common_steps, c.writing.invariant.at, c.cut-at.ensures.within);
      made = omega (arith, more.ensures.most, more.auto.ticks);
      settings = more.ensures.settings ∙ c.cut-at.ensures.settings ∙ c.writing.invariant.settings;
      few = λ none. absurd (omega (arith, none, c.if-made-ticks.true, c.writing.auto.ticks));
      settled = λ lt. more.ensures.settled (omega (arith, lt, more.auto.ticks));
      goes = λ front given h.
          more.ensures.writes (front ++ take (c.writing.at + c.cut-at.result) c.args.samples.now) given
          (gives_over c.args.self.now c.writing.self c.cut-at.new.self c.writing.at c.cut-at.result
          c.args.samples.now (take c.writing.made c.writing.ticks) c.writing.invariant.goes c.cut-at.ensures.gives
          front given h);
      rest = rest_behind c.writing.made more.result c.args.ticks.now c.writing.ticks more.new.ticks
          more.ensures.least c.writing.invariant.rest more.ensures.rest;
    }
