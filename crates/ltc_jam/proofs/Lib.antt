pub mod CleanIsRead
pub mod LabelsOfSystem
pub mod Steady
pub mod WordOfLabel
