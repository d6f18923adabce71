pub mod Answers
pub mod Grammar
pub mod KeptFront
pub mod KeptPieces
pub mod LineFile
pub mod LineHeader
pub mod StandsFor
pub mod Texts
-- what the public clauses cite of the crates below
pub use Rattle.vitc_reader.specs.Field as FieldAnswers
pub use Rattle.vitc_reader.specs.Runs
