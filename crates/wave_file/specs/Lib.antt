pub mod Chunk
pub mod Format
pub mod GoesOn
pub mod Grammar
pub mod Stage
pub mod StandsFor
pub mod Step
pub mod Wave
