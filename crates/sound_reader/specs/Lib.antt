pub mod Settings
pub mod Slicer
pub mod Sound
pub mod Waiting
