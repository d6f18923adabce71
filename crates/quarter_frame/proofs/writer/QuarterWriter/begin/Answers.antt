use Rattle.std.proofs.Common.{◌++◌, length, ◌∙◌, ap, ap₂, true}
use Rattle.quarter_frame.proofs.OneFrameMore.{length_four}
use Rattle.quarter_frame.proofs.TwoParts.{two_parts}
use Rattle.quarter_frame.proofs.writer.QuarterWriter.begin.Goals as goal

-- the full message, and the quarter frames behind it
pub returns-clause-bytes : goal.returns-clause-bytes
returns-clause-bytes c =
    let front = c.copy_from_slice.ensures.after ∙ c.full.ensures in
    let back = c.copy_from_slice-2.ensures.after ∙ c.four_quarters.ensures in
    let eight = ap length back ∙ length_four c.args.label.now c.args.direction true in
    two_parts c.copy_from_slice.new.self c.copy_from_slice-2.new.self c.args.room.now
    (ap length front) eight c.told-room ∙ ap₂ (λ a b. a ++ b) front back
