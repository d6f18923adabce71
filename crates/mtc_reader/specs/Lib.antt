pub use Rattle.tc_address.specs.Label
pub mod Messages
pub mod Events
pub mod Spelled
pub mod StandsFor
pub mod Texts
pub mod Laws
