pub mod Answer
pub mod Forms
pub mod Line
pub mod Timebase
pub mod Way
