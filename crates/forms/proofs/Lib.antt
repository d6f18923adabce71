pub mod FromTheLeft
pub mod InSlots
pub mod JobsInRange
pub mod Numbers
mod NumberedLabels
pub mod SoundInRange
