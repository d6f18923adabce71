pub mod CauseOfALoss
pub mod ErrorShrinks
pub mod LockIsHeld
pub mod PullingShrinks
pub mod FromRowToRow
mod Examples
