use Rattle.std.proofs.Common.{[], ◌+◌, ◌-◌, ◌++◌, ◌∙◌, refl, ap, append-nil, take, arith}
use Rattle.code_maker.specs.Sound.{MadeSound}
use Rattle.code_maker.proofs.SamplesOn.{begun_at, from_nothing, further, rest_on, untouched}
use Rattle.code_maker.proofs.sound.SoundMaker.write.Goals as goal

-- what was still to be written is written
pub writing-init : goal.writing-init
writing-init c =
    let new = c.go_on-made.new.self in
    let made = c.go_on-made.result in
    record {
      at = omega arith;
      made = omega (arith, c.go_on-made.ensures.most, c.go_on-made.auto.samples);
      level = ap (λ (s : MadeSound). s.level) c.go_on-made.ensures.new;
      few = λ none. (
        refl,
        untouched c.args.self.now new made (omega (arith, none, c.go_on-made.ensures.most))
            c.go_on-made.ensures.new c.go_on-made.ensures.left,
      );
      done = λ lt. c.go_on-made.ensures.done (omega (arith, lt, c.go_on-made.auto.samples));
      goes = λ front given h. from_nothing new front c.args.ticks.now (given ++ take made c.go_on-made.new.samples)
          (further c.args.self.now new 0 made front given [] (take made c.go_on-made.new.samples) (omega arith)
          c.go_on-made.ensures.new c.go_on-made.ensures.left c.go_on-made.ensures.writes (rw (append-nil given) h));
      rest = c.go_on-made.ensures.rest;
    }

-- an interval more began, and is written as far as there is room
pub writing-preserved : goal.writing-preserved
writing-preserved c =
    let at = c.writing.at in
    let before = c.writing.made in
    let begun = c.begin.new.self in
    let new = c.go_on-made-in-writing.new.self in
    let made = c.go_on-made-in-writing.result in
    let samples = c.go_on-made-in-writing.new.samples in
    record {
      at = omega (arith, c.writing-test.true);
      made = omega (arith, c.go_on-made-in-writing.ensures.most, c.go_on-made-in-writing.auto.samples);
      level = ap (λ (s : MadeSound). s.level) c.go_on-made-in-writing.ensures.new
          ∙ ap (λ (s : MadeSound). s.level) c.begin.ensures ∙ c.writing.invariant.level;
      few = λ none. absurd (omega (arith, none, c.if-made-samples.true, c.writing.auto.samples));
      done = λ lt.
          c.go_on-made-in-writing.ensures.done (omega (arith, lt, c.go_on-made-in-writing.auto.samples));
      goes = λ front given h.
          further begun new before made (front ++ take (at + 1) c.args.ticks.now) given
          (take before c.writing.samples) (take made samples) c.go_on-made-in-writing.ensures.least
          c.go_on-made-in-writing.ensures.new c.go_on-made-in-writing.ensures.left
          c.go_on-made-in-writing.ensures.writes
          (begun_at c.writing.self begun at _ front c.args.ticks.now (given ++ take before c.writing.samples)
          c.writing-test.true refl (c.writing.invariant.done c.if-made-samples.true) c.begin.ensures
          (c.writing.invariant.goes front given h));
      rest = rest_on before (made - before) made c.args.samples.now c.writing.samples samples
          (omega (arith, c.go_on-made-in-writing.ensures.least)) c.writing.invariant.rest
          c.go_on-made-in-writing.ensures.rest;
    }
