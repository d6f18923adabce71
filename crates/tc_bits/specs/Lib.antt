pub mod Fault
pub mod Fields
pub mod Reading
pub mod Register
pub mod Row
pub mod Spelling
pub mod Table
pub mod UserBits
pub mod FieldLemmas
-- what the public clauses cite of the crate below
pub use Rattle.tc_address.specs.Count
pub use Rattle.tc_address.specs.Label
