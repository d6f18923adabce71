pub mod Examples
pub mod Prefixes
