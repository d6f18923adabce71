pub mod Digit
pub mod Same
