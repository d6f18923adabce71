pub mod Along
pub mod KeptAlong
pub mod KeptBehind
pub mod KeptCommand
pub mod PinnedLemmas
