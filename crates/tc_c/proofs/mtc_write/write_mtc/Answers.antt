use Rattle.std.proofs.Common.{List, ℕ, drop, ◌++◌, sym, ap, ◌∙◌, arith}
use Rattle.std.proofs.lemmas.Grind.{common_steps}
use Rattle.quarter_frame.specs.Runs.{mtc_of}
use Rattle.tc_c.proofs.BytesOn.{front_is}
use Rattle.tc_c.proofs.mtc_write.write_mtc.Goals as goal

-- what was copied are the bytes of the frame
pub returns-clause-writes : goal.returns-clause-writes
returns-clause-writes c = λ frames stands.
    let count = c.frame-count.result in
    let room = c.frame-count.new.room in
    let told = c.frame-count.ensures.stands frames stands in
    let is = front_is count c.copy_from_slice.new.self (drop count c.args.bytes.now) room
    c.copy_from_slice.ensures.after
    (grind (arith, common_steps, c.frame-count.ensures.most, c.frame-count.array_long)) in
    (told.0, told.1 ∙ ap (λ (l : List ℕ). mtc_of frames ++ l) (sym is))
