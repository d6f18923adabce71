pub mod Circle
pub mod Count
pub mod DropFrame
pub mod Label
pub mod Numbering
pub mod Spelling
pub mod KnownLabels
pub mod LabelLemmas
