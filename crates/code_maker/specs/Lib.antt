pub mod Bits
pub mod Sound
