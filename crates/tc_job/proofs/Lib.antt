mod EachRate
pub mod FirstFit
