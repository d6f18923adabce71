mod EitherWay
pub mod ShapedIsAChain
mod WornIsRough
