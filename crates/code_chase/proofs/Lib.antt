pub mod KindsOfALoss
mod LinesOfFrames
mod RowsOfFrames
mod CausesOfALoss
mod Examples
pub mod WithoutAGap
