mod Examples
pub mod AroundTheDay
pub mod DayInOrder
pub mod DroppedLabels
pub mod NumbersByDigits
pub mod OneNumber
pub mod OneSpelling
pub mod OneTextFault
pub mod TwoDigits
