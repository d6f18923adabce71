pub mod AnsweredText
pub mod KeptLine
pub mod LineLemmas
pub mod OnlyColumns
pub mod Written
