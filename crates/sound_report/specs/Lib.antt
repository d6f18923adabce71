pub mod OneSpan
pub mod TwoRuns
pub mod Whole
pub mod WordsReport
pub mod WordsSpans
