pub use Rattle.tc_address.specs.Circle
pub use Rattle.tc_address.specs.Count
pub use Rattle.tc_address.specs.Numbering
pub use Rattle.transport_model.specs.Move
pub mod NextRow
pub mod Step
pub mod Trace
pub mod StepLemmas
