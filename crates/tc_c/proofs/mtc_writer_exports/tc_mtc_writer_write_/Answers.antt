use Rattle.std.proofs.Common.{Option, take, subst, ◌∙◌}
use Rattle.flywheel.specs.declared.frame.Frame.{Frame}
use Rattle.quarter_frame.specs.declared.half.Half.{Half}
use Rattle.tc_c.specs.Write.{MtcWrites}
use Rattle.tc_c.proofs.OneFrame.{one_frame}
use Rattle.tc_c.proofs.mtc_writer_exports.tc_mtc_writer_write_.Goals as goal

-- the frame is the one that the numbers mean, and the writer the one that the handle has
pub returns-clause-writes : goal.returns-clause-writes
returns-clause-writes c = λ f means done.
    let new = c.write_mtc-made.new.writer in
    let bytes = take c.write_mtc-made.result c.write_mtc-made.new.bytes in
    let frame = c.in-Some.frame in
    let here = subst (λ (half : Option Half). MtcWrites half new frame bytes)
    (c.behind-handle.view_is ∙ c.writer.ensures.value) c.write_mtc-made.ensures.writes in
    subst (λ (g : Frame). MtcWrites c.args.handle.now.value new g bytes)
    (one_frame c.args.frame.now frame f c.in-Some.ensures.means means) here
