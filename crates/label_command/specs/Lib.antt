pub mod AnsweredAgain
pub mod KeptLabels
pub mod KeptSums
pub mod Labels
pub mod Sums
pub mod TextLines
pub mod ThereAndBack
