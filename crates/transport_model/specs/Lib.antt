pub use Rattle.tc_address.specs.Circle
pub use Rattle.tc_address.specs.Count
pub use Rattle.tc_address.specs.Numbering
pub mod Move
