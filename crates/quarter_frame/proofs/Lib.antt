pub mod FramesOfARun
pub mod OneFrameMore
pub mod TwoParts
pub mod GoesOn
pub mod RunIsRead
pub mod RunsAreRead
mod FramesStandFirst
