pub mod Reads
pub mod Tape
