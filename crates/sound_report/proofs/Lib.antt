pub mod CountedWords
pub mod CountsTheWords
pub mod FileOfASound
pub mod JoinedSpan
pub mod JoinedWords
pub mod OutputOfARun
pub mod SpansOfASound
pub mod WholeDistances
