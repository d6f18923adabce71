pub mod BridgedFrames
pub mod Digits
pub mod EvenDays
mod Examples
pub mod FinalLines
pub mod LastLabel
pub mod LinesOfFrames
pub mod OpenSpans
pub mod SharedOut
pub mod SpansGoOn
pub mod TicksInOrder
