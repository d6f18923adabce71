pub mod AllTold
pub mod AllUsed
pub mod ExamplesTaken
pub mod FirstDash
pub mod FormsTaken
pub mod NumbersNamed
pub mod SlotsTold
