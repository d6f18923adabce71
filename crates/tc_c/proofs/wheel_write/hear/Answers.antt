use Rattle.std.proofs.Common.{take, ◌++◌, ◌∷◌, [], ◌∙◌, ap, subst, Bool, arith}
use Rattle.std.proofs.lemmas.Grind.{common_steps}
use Rattle.std.proofs.lemmas.List.{take_more_set}
use Rattle.tc_c.specs.Write.{WheelGoes}
use Rattle.tc_c.specs.declared.frame.TcFrame.{TcFrame}
use Rattle.tc_c.proofs.FramesOn.{is_done, word_on}
use Rattle.tc_c.proofs.wheel_write.hear.Goals as goal

-- all that was due before the word is written, and then the word
pub returns-clause-heard : goal.returns-clause-heard
returns-clause-heard c = λ done.
    let made = c.pass-passed.result.made in
    let frames = c.pass-passed.new.frames in
    let all = is_done c.pass-passed.result.done c.if-not-passed.false in
    let passed = subst
    (λ (b : Bool). WheelGoes c.args.wheel.now c.pass-passed.new.wheel [] b (take made frames)) all
    c.pass-passed.ensures.goes in
    word_on c.args.wheel.now c.pass-passed.new.wheel c.heard.new.self c.args.word.now c.heard.result
    (take made frames) _ passed c.heard.ensures.stands
    (take_more_set frames made c.c_frame.result
    (grind (arith, common_steps, c.pass-passed.ensures.room all, c.pass-passed.auto.frames))
    ∙ ap (λ (frame : TcFrame). take made frames ++ frame ∷ []) c.c_frame.ensures)
