use Rattle.std.proofs.Common.{refl, take, ◌+◌, ◌++◌, ◌∷◌, [], ◌∙◌, ap, arith}
use Rattle.std.proofs.lemmas.Grind.{common_steps}
use Rattle.std.proofs.lemmas.List.{drop-set-lt, take_more_set}
use Rattle.tc_c.specs.declared.frame.TcFrame.{TcFrame}
use Rattle.tc_c.proofs.FramesOn.{frame_on}
use Rattle.tc_c.proofs.WritesOn.{rest_on}
use Rattle.tc_c.proofs.wheel_write.pass.Goals as goal

-- a frame more was due, and is written
pub passing-preserved : goal.passing-preserved
passing-preserved c =
    let made = c.passing.made in
    let frames = c.passing.frames in
    record {
      made = grind (arith, common_steps, c.passing-test.true);
      limit = c.passed.ensures.limit ∙ c.passing.invariant.limit;
      may = record { later = omega (arith, c.passed.ensures.tick); below = c.requires.below };
      told = λ _. c.passed.ensures.tick;
      goes = frame_on c.args.wheel.now c.passing.wheel c.passed.new.self c.in-Some.frame c.passed.result
          (take made frames) _ c.passing.invariant.goes c.passed.ensures.stands c.in-Some.is
          (take_more_set frames made c.c_frame.result c.passing-test.true
          ∙ ap (λ (frame : TcFrame). take made frames ++ frame ∷ []) c.c_frame.ensures);
      few = λ none. absurd (omega (arith, none, c.passing-test.true, c.passing.auto.frames));
      rest = rest_on made 1 (made + 1) c.args.frames.now frames _ refl c.passing.invariant.rest
          (drop-set-lt (made + 1) frames made c.c_frame.result (omega arith));
    }
