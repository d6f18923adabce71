pub mod CheckBehind
pub mod FoldedCheck
pub mod LineOfAWord
pub mod OneSpelling
pub mod RowOfALine
pub mod SpellsOrFaulty
pub mod UnderSyncPairs
