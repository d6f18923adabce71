pub mod CellsNext
pub mod EighthBefore
pub mod Emptied
mod Examples
pub mod FrontNext
mod GateExamples
pub mod GateJudges
pub mod GivenFirst
pub mod GroupNext
pub mod HeldNext
pub mod IntervalsCover
pub mod JudgingNext
pub mod LatestSizes
pub mod LatestSound
pub mod Means
pub mod SaidIntervals
pub mod SaidSound
pub mod SoFar
mod SoundExamples
pub mod StepsNext
