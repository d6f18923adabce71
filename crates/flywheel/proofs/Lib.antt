pub mod BothWays
pub mod BoundedInvention
pub mod DueInOrder
mod FrameAfterFrame
pub mod GivenComeFirst
pub mod GivenSoFar
mod LaterTicks
pub mod PairsOfWords
mod Examples
