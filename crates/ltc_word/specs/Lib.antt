pub mod Balance
pub mod Fault
pub mod Places
pub mod Reading
pub mod Reversal
pub mod Spelled
pub mod Spelling
pub mod SyncLemmas
-- what the public clauses cite of the crates below
pub use Rattle.tc_address.specs.Count
pub use Rattle.tc_address.specs.Label
pub use Rattle.tc_bits.specs.Fault as FieldFaults
pub use Rattle.tc_bits.specs.Fields
pub use Rattle.tc_bits.specs.Reading as FieldsRead
pub use Rattle.tc_bits.specs.Register
pub use Rattle.tc_bits.specs.Row
pub use Rattle.tc_bits.specs.Spelling as FieldsSpelled
pub use Rattle.tc_bits.specs.Table
pub use Rattle.tc_bits.specs.UserBits
