pub mod Moment
pub mod Rate
