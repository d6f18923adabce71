pub mod AnswerGrows
pub mod AnswersExist
pub mod BitsOfCells
pub mod ByAProduct
mod Examples
pub mod LevelOfARun
pub mod LinesSaid
pub mod OneAnswer
pub mod ReadSoFar
pub mod RunsOfBits
pub mod RunsOfBytes
pub mod SaidLines
pub mod SameWord
pub mod TableOfOnes
pub mod TurnedSoFar
pub mod WholeCells
pub mod WrittenSoFar
pub mod XorOfOnes
