use Rattle.flywheel.proofs.FrameAfterFrame.{go_on}
use Rattle.flywheel.proofs.laws.a_frame_that_goes_on_is_the_next.Goals as goal

pub returns : goal.returns
returns c = λ limit last words. go_on (c.steps_add_up.ensures.sum) (c.the_next_word_fits.ensures) limit words last
