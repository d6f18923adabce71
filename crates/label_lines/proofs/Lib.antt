pub mod Choices
pub mod Digits
mod Examples
pub mod HowFar
pub mod WrittenAndRead
pub mod WrittenDigits
pub mod WrittenSeconds
