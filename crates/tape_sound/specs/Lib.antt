pub mod EvenTape
pub mod Heard
pub mod Late
pub mod Made
pub mod Margin
pub mod OnTime
pub mod Part
pub mod Ramps
