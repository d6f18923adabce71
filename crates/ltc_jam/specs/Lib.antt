pub mod Cells
pub mod Labels
pub mod Word
pub mod WordLemmas
