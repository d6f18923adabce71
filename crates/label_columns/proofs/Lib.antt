pub mod Cut
pub mod HowFar
