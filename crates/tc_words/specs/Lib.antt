pub mod AnsweredWords
pub mod Forms
pub mod NumberLemmas
pub mod Pages
pub mod Usages
pub mod Words
