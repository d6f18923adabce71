pub mod Clean
pub mod Drawing
pub mod Inside
pub mod Near
pub mod Worked
