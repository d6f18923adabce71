pub mod FrameTexts
pub mod Texts
