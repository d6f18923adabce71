pub mod Chase
pub mod KeptScript
pub mod Stop
