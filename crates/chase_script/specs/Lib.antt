pub mod Answer
pub mod Column
pub mod Kept
pub mod KeptRow
pub mod Lock
pub mod Script
pub mod TraceText
